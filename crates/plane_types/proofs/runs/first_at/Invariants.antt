use Rattle.std.proofs.Common.{◌≡◌, drop, find}
use Rattle.plane_types.proofs.runs.first_at.Given as goal

-- none so far has the key
abbrev pub invariant-loop-row : goal.invariant-loop-row
invariant-loop-row g l =
    find (g.R.Keyed.is_at l.key) (drop l.row-index l.rows) ≡ find (g.R.Keyed.is_at l.key) l.rows
