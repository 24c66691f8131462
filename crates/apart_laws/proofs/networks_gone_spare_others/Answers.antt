use Rattle.apart_laws.proofs.NetworkLeaves.{gone_stays}
use Rattle.apart_laws.proofs.networks_gone_spare_others.Goals as goal

pub returns : goal.returns
returns c rows project k n known at own = gone_stays rows known project k n at own
