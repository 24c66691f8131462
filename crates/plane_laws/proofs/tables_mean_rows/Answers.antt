use Rattle.plane_laws.proofs.Theorem.{tables-mean-rows}
use Rattle.plane_laws.proofs.tables_mean_rows.Goals as goal

pub returns : goal.returns
returns c = tables-mean-rows
