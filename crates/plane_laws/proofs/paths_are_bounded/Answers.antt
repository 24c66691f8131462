use Rattle.plane_laws.proofs.BoundsLaw.{bounded-by_rows}
use Rattle.plane_laws.proofs.BoundsTables.{bounded-by_tables}
use Rattle.plane_laws.proofs.paths_are_bounded.Goals as goal

pub returns-clause-by_rows : goal.returns-clause-by_rows
returns-clause-by_rows c = bounded-by_rows

pub returns-clause-by_tables : goal.returns-clause-by_tables
returns-clause-by_tables c = bounded-by_tables
