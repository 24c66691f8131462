use Rattle.plane_laws.proofs.FactsHold.{own-down}
use Rattle.plane_laws.proofs.floating_ports_are_down.Goals as goal

pub returns : goal.returns
returns c = own-down
