use Rattle.plane_laws.proofs.SecurityLaw.{in-by-lists, in-by-rows, in-by-tables, out-by-lists, out-by-rows, out-by-tables}
use Rattle.plane_laws.proofs.port_security_holds.Goals as goal

pub returns-clause-in_by_rows : goal.returns-clause-in_by_rows
returns-clause-in_by_rows c = in-by-rows

pub returns-clause-in_by_tables : goal.returns-clause-in_by_tables
returns-clause-in_by_tables c = in-by-tables

pub returns-clause-in_by_lists : goal.returns-clause-in_by_lists
returns-clause-in_by_lists c = in-by-lists

pub returns-clause-out_by_rows : goal.returns-clause-out_by_rows
returns-clause-out_by_rows c = out-by-rows

pub returns-clause-out_by_tables : goal.returns-clause-out_by_tables
returns-clause-out_by_tables c = out-by-tables

pub returns-clause-out_by_lists : goal.returns-clause-out_by_lists
returns-clause-out_by_lists c = out-by-lists
