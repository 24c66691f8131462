use Rattle.std.proofs.Common.{take}
use Rattle.std.specs.HashMap.{get}
use Rattle.plane_types.specs.Runs.{IsRunOf}
use Rattle.plane_types.proofs.runs.runs_of.Given as goal

-- the runs are those of the rows so far
abbrev pub invariant-loop-place : goal.invariant-loop-place
invariant-loop-place g l =
    (k : g.row.R-Key.Denot)
    → IsRunOf (g.R.Keyed.is_at k) (take l.place l.rows) 0 0 (get g.R.Key.PartialEq.eq l.runs k)
