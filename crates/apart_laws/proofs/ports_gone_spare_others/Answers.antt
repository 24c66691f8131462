use Rattle.apart_laws.proofs.PortLeaves.{port_leaves}
use Rattle.apart_laws.proofs.ports_gone_spare_others.Goals as goal

pub returns : goal.returns
returns c rows project k p known at may = port_leaves rows known project k p at may
