use Rattle.std.specs.Prelude.{IsTrue}
use Rattle.keeper_core.specs.Desk.{fresh_ends}
use Rattle.run_tests.proofs.desk.all_ends.Given as goal

abbrev pub invariant-loop-connection : goal.invariant-loop-connection
invariant-loop-connection l = IsTrue (fresh_ends l.ends)
