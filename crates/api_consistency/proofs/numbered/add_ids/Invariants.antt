use Rattle.std.proofs.Common.{◌≡◌, ◌++◌, map, take}
use Rattle.api_consistency.specs.Keys.{of_id}
use Rattle.api_consistency.proofs.numbered.add_ids.Given as goal

-- those of the rows so far are added
abbrev pub invariant-loop-row : goal.invariant-loop-row
invariant-loop-row g l = l.ids.items ≡ l.fn.ids.items ++ map (λ r. of_id (g.R.Keyed.id_of r)) (take l.row-index l.rows)
