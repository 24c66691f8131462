use Rattle.std.proofs.Common.{◌≡◌, ◌≤◌, drop, length, map}
use Rattle.plane_types.specs.Keyed.{under}
use Rattle.plane_types.specs.KeyedTables.{group_filters}
use Rattle.plane_types.specs.NumberedRows.{numbered_rows_after}
use Rattle.table_edits.specs.NumbersSeen.{at_after}
use Rattle.l2_delta.specs.Gathered.{gathered}
use Rattle.l2_delta.proofs.filters.FilterTable.rows_by_groups.Given as goal

-- the rows by the groups with the numbers from one on are added
abbrev pub invariant-loop-left : goal.invariant-loop-left
invariant-loop-left l = record {
  within : l.left ≤ length l.places.items;
  added : map (λ r. (r.key, r.row)) l.rows.items
      ≡ gathered (at_after l.self.groups.now) (λ k g. under k (group_filters (numbered_rows_after l.self.change.now.before.now l.self.change.now.items.now) l.port g)) (drop l.left l.places.items);
}

abbrev pub decreases-loop-left : goal.decreases-loop-left
decreases-loop-left l = l.left
