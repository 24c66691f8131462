use Rattle.std.proofs.Common.{◌+◌, ◌≤◌, drop, length}
use Rattle.std.specs.Prelude.{nat_eq}
use Rattle.std.specs.HashMap.{get}
use Rattle.api_types.specs.Table.{ident_eq}
use Rattle.plane_types.specs.NumberedRows.{row_items}
use Rattle.table_edits.proofs.NumbersTold.{SoFar}
use Rattle.table_edits.proofs.numbers.Numbers.of.Given as goal

-- the items so far are told, and those that are left fit the rows that they lead to
abbrev pub invariant-loop-place : goal.invariant-loop-place
invariant-loop-place g l =
    SoFar g.R.Keyed.id_of g.R.RowKind.part_of l.items l.table (row_items g.R.RowKind.kind_is g.R.RowKind.part_of l.items)
    (row_items g.R.RowKind.kind_is g.R.RowKind.part_of (drop l.place l.items)) l.next (get nat_eq l.told.last) (get ident_eq l.told.made) l.told.named.items
    × (l.next ≤ length l.table + l.place)
