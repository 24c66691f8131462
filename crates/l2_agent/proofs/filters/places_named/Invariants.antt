use Rattle.std.proofs.Common.{◌≡◌, ◌≤◌, ℕ, drop, length}
use Rattle.std.specs.BTreeSet.{contains}
use Rattle.std.specs.Ordering.{nat_cmp}
use Rattle.l2_agent.specs.Indices.{is_named}
use Rattle.l2_agent.proofs.filters.places_named.Given as goal

-- the set has the places of the ids from one on
abbrev pub invariant-loop-left : goal.invariant-loop-left
invariant-loop-left l = record { within : l.left ≤ length l.ids; found : (p : ℕ) → contains nat_cmp l.indices p ≡ is_named l.ruled.groups (drop l.left l.ids) p }

abbrev pub decreases-loop-left : goal.decreases-loop-left
decreases-loop-left l = l.left
