use Rattle.std.proofs.Common.{[]}
use Rattle.table_edits.proofs.TableLaws.{floats_lead}
use Rattle.table_edits.proofs.table_laws.floats_are_rewired.Goals as goal

pub returns : goal.returns
returns c = λ rows items host. floats_lead rows items host [] []
