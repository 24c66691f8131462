use Rattle.table_edits.proofs.SetLaw.{sets_lead}
use Rattle.table_edits.proofs.table_laws.sets_are_rewired.Goals as goal

pub returns : goal.returns
returns c = sets_lead
