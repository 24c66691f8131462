use Rattle.std.proofs.Common.{◌≡◌, drop}
use Rattle.std.specs.List.{list_any}
use Rattle.plane_types.proofs.runs.any_at.Given as goal

-- none so far has the key
abbrev pub invariant-loop-row : goal.invariant-loop-row
invariant-loop-row g l =
    list_any (g.R.Keyed.is_at l.key) (drop l.row-index l.rows)
    ≡ list_any (g.R.Keyed.is_at l.key) l.rows
