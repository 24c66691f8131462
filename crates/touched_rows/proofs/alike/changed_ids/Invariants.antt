use Rattle.std.proofs.Common.{◌≡◌, drop, false}
use Rattle.std.specs.HashSet.{contains}
use Rattle.api_types.specs.Ident.{Ident}
use Rattle.api_types.specs.Table.{ident_eq, row_of}
use Rattle.plane_types.specs.NumberedRows.{row_items}
use Rattle.plane_types.proofs.UnnamedLemmas.{names}
use Rattle.touched_rows.specs.RowStays.{RowStays}
use Rattle.touched_rows.proofs.alike.changed_ids.Given as goal

-- a row that isn't among those so far, and that no item names which is left, stays alike
abbrev pub invariant-loop-item : goal.invariant-loop-item
invariant-loop-item g l =
    (n : Ident) → contains ident_eq l.ids n ≡ false → names g.R.Keyed.id_of n (row_items g.R.RowKind.kind_is g.R.RowKind.part_of (drop l.item-index l.items)) ≡ false
    → RowStays g.R.Alike.alike (row_of g.R.Keyed.id_of n l.before) (row_of g.R.Keyed.id_of n l.after)
