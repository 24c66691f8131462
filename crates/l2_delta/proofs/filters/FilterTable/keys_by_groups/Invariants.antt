use Rattle.std.proofs.Common.{◌≡◌, ◌≤◌, drop, length, map}
use Rattle.plane_types.specs.Keyed.{under}
use Rattle.plane_types.specs.KeyedTables.{group_filters}
use Rattle.plane_types.specs.NumberedRows.{numbered_rows}
use Rattle.table_edits.specs.NumbersSeen.{at_before}
use Rattle.l2_delta.specs.Gathered.{gathered}
use Rattle.l2_delta.proofs.filters.FilterTable.keys_by_groups.Given as goal

-- the keys by the groups with the numbers from one on are added
abbrev pub invariant-loop-left : goal.invariant-loop-left
invariant-loop-left l = record {
  within : l.left ≤ length l.places.items;
  added : l.keys.items ≡ map (λ x. x.0) (gathered (at_before l.self.groups.now) (λ k g. under k (group_filters (numbered_rows l.self.change.now.before.now) l.port g)) (drop l.left l.places.items));
}

abbrev pub decreases-loop-left : goal.decreases-loop-left
decreases-loop-left l = l.left
