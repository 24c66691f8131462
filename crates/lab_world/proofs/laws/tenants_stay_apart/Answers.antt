use Rattle.lab_world.proofs.AskApart.{ask_apart}
use Rattle.lab_world.proofs.laws.tenants_stay_apart.Goals as goal

pub returns : goal.returns
returns c = record { apart = ask_apart }
