use Rattle.std.proofs.Common.{◌≡◌, drop}
use Rattle.std.specs.Prelude.{find}
use Rattle.api_types.specs.Holders.{floats_at}
use Rattle.plane_rows.proofs.holders.held_by_floating.Given as goal

-- none so far is this floating address
abbrev pub invariant-loop-floating : goal.invariant-loop-floating
invariant-loop-floating l = find (floats_at l.network l.address) (drop l.floating-index l.floating-items) ≡ find (floats_at l.network l.address) l.rows.floatings
