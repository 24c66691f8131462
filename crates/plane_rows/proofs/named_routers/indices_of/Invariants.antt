use Rattle.std.proofs.Common.{◌≡◌, ◌≤◌, ℕ, List, drop, find, length, slice_get}
use Rattle.std.specs.HashMap.{get_by_text}
use Rattle.std.specs.Option.{option_and_then}
use Rattle.plane_rows.specs.Named.{is_named}
use Rattle.plane_rows.proofs.named_routers.indices_of.Given as goal

-- the map has the place of the first router with a text from one on
abbrev pub invariant-loop-left : goal.invariant-loop-left
invariant-loop-left l = record {
  within : l.left ≤ length l.routers;
  found : (t : List ℕ) → option_and_then (slice_get l.routers) (get_by_text l.indices t) ≡ find (is_named t) (drop l.left l.routers);
}

abbrev pub decreases-loop-left : goal.decreases-loop-left
decreases-loop-left l = l.left
