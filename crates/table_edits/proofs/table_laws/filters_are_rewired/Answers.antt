use Rattle.table_edits.proofs.FilterLaw.{filters_lead}
use Rattle.table_edits.proofs.table_laws.filters_are_rewired.Goals as goal

pub returns : goal.returns
returns c = filters_lead
