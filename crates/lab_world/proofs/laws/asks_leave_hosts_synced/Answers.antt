use Rattle.lab_world.proofs.SyncLaws.{ask_syncs}
use Rattle.lab_world.proofs.laws.asks_leave_hosts_synced.Goals as goal

pub returns : goal.returns
returns c = ask_syncs
