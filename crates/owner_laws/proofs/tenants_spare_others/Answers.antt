use Rattle.owner_laws.proofs.CallsSpare.{calls_spare}
use Rattle.owner_laws.proofs.tenants_spare_others.Goals as goal

pub returns : goal.returns
returns c = calls_spare
