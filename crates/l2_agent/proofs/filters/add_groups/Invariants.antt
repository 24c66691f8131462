use Rattle.std.proofs.Common.{◌≡◌, ◌≤◌, ◌<◌, ◌++◌, ℕ, false, drop, length}
use Rattle.std.specs.Prelude.{flat_map}
use Rattle.std.specs.BTreeSet.{contains}
use Rattle.std.specs.Ordering.{nat_cmp}
use Rattle.plane_types.specs.TableRows.{filters_of_group}
use Rattle.l2_agent.specs.Indices.{is_named}
use Rattle.l2_agent.proofs.filters.add_groups.Given as goal

-- the groups in front of a place are done, and the places that are left are those of the others
abbrev pub invariant-loop-place : goal.invariant-loop-place
invariant-loop-place l =
    (from : ℕ) × (l.filters ++ flat_map (filters_of_group l.ruled l.port) (drop from l.ruled.groups) ≡ l.fn.filters ++ flat_map (filters_of_group l.ruled l.port) l.ruled.groups)
    × ((p : ℕ) → from ≤ p → contains nat_cmp l.indices p ≡ is_named l.ruled.groups l.port.groups p)
    × ((p : ℕ) → p < from → contains nat_cmp l.indices p ≡ false)

abbrev pub decreases-loop-place : goal.decreases-loop-place
decreases-loop-place l = length l.indices.keys
