use Rattle.std.proofs.Common.{◌≡◌, ◌≤◌, ℕ, drop, length}
use Rattle.std.specs.Prelude.{◌==◌, nat_eq}
use Rattle.std.specs.HashSet.{contains}
use Rattle.std.specs.List.{filter_map, list_any}
use Rattle.plane_types.specs.TableRows.{tag_of as tag_given}
use Rattle.l2_agent.proofs.tags.kept_tags.Given as goal

-- the set has the tags of the networks from a place on
abbrev pub invariant-loop-left : goal.invariant-loop-left
invariant-loop-left l = record {
  within : l.left ≤ length l.networks;
  found : (t : ℕ) → contains nat_eq l.kept t ≡ list_any (λ k. k == t) (filter_map (tag_given l.old) (drop l.left l.networks));
}

abbrev pub decreases-loop-left : goal.decreases-loop-left
decreases-loop-left l = l.left
