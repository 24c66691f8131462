use Rattle.plane_types.proofs.FewLemmas.{few}
use Rattle.plane_types.proofs.edit_laws.edits_are_few.Goals as goal

pub returns : goal.returns
returns c s = few
