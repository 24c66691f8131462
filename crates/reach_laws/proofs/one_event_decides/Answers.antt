use Rattle.reach_laws.proofs.Exact.{decides}
use Rattle.reach_laws.proofs.one_event_decides.Goals as goal

pub returns : goal.returns
returns c = decides
