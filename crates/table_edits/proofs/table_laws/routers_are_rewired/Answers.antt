use Rattle.table_edits.proofs.TableLaws.{routers_lead}
use Rattle.table_edits.proofs.table_laws.routers_are_rewired.Goals as goal

pub returns : goal.returns
returns c = routers_lead
