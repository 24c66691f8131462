use Rattle.plane_laws.proofs.CrossingTop.{by-rows, by-tables}
use Rattle.plane_laws.proofs.ListLaw.{lists-cross}
use Rattle.plane_laws.proofs.paths_cross_at_routers.Goals as goal

pub returns-clause-by_rows : goal.returns-clause-by_rows
returns-clause-by_rows c = by-rows

pub returns-clause-by_tables : goal.returns-clause-by_tables
returns-clause-by_tables c = by-tables

pub returns-clause-by_lists : goal.returns-clause-by_lists
returns-clause-by_lists c = lists-cross
