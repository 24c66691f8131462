use Rattle.std.proofs.Common.{drop}
use Rattle.table_edits.proofs.EditsAtLemmas.{AreSoFar}
use Rattle.table_edits.proofs.edits.edits_of.Given as goal

-- the edits so far before any at the keys that are left
abbrev pub invariant-loop-key : goal.invariant-loop-key
invariant-loop-key g l = AreSoFar g.C.Changed.before (g.C.Changed.entries l.table) (g.C.Changed.after l.table) l.keys (drop l.key-index l.keys) l.edits
