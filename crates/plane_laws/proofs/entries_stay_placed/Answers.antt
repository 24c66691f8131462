use Rattle.plane_laws.proofs.KeptLaw.{stay-placed}
use Rattle.plane_laws.proofs.entries_stay_placed.Goals as goal

pub returns : goal.returns
returns c = stay-placed
