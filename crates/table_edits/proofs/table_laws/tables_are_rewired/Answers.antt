use Rattle.table_edits.proofs.KeyedLaw.{keyed_lead}
use Rattle.table_edits.proofs.table_laws.tables_are_rewired.Goals as goal

pub returns : goal.returns
returns g c = keyed_lead
