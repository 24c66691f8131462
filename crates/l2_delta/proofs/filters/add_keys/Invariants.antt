use Rattle.std.proofs.Common.{◌≡◌, ◌≤◌, ◌++◌, drop, length, map}
use Rattle.plane_types.specs.Keyed.{under}
use Rattle.table_edits.specs.NumbersSeen.{at_before}
use Rattle.l2_delta.specs.Filtered.{rule_filter}
use Rattle.l2_delta.specs.Gathered.{gathered}
use Rattle.l2_delta.proofs.filters.add_keys.Given as goal

-- the keys by the numbers from one on are added
abbrev pub invariant-loop-left : goal.invariant-loop-left
invariant-loop-left l = record {
  within : l.left ≤ length l.numbers;
  added : l.keys.items
      ≡ l.fn.keys.items ++ map (λ x. x.0) (under l.place (gathered (at_before l.rules) (rule_filter l.port l.group) (drop l.left l.numbers)));
}

abbrev pub decreases-loop-left : goal.decreases-loop-left
decreases-loop-left l = l.left
