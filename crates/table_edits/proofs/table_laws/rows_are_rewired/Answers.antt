use Rattle.table_edits.proofs.NumberedLaw.{rows_lead}
use Rattle.table_edits.proofs.table_laws.rows_are_rewired.Goals as goal

pub returns : goal.returns
returns g c = rows_lead
