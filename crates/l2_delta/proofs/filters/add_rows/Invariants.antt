use Rattle.std.proofs.Common.{◌≡◌, ◌≤◌, ◌++◌, drop, length, map}
use Rattle.plane_types.specs.Keyed.{under}
use Rattle.table_edits.specs.NumbersSeen.{at_after}
use Rattle.l2_delta.specs.Filtered.{rule_filter}
use Rattle.l2_delta.specs.Gathered.{gathered}
use Rattle.l2_delta.proofs.filters.add_rows.Given as goal

-- the rows by the numbers from one on are added
abbrev pub invariant-loop-left : goal.invariant-loop-left
invariant-loop-left l = record {
  within : l.left ≤ length l.numbers;
  added : map (λ r. (r.key, r.row)) l.rows.items
      ≡ map (λ r. (r.key, r.row)) l.fn.rows.items ++ under l.place (gathered (at_after l.rules) (rule_filter l.port l.group) (drop l.left l.numbers));
}

abbrev pub decreases-loop-left : goal.decreases-loop-left
decreases-loop-left l = l.left
