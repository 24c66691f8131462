use Rattle.std.proofs.Common.{◌≡◌, ◌-◌, take, length}
use Rattle.std.specs.Prelude.{is_some}
use Rattle.api_types.specs.Table.{row_of}
use Rattle.api_types.specs.TableItems.{after_all, FitAll}
use Rattle.api_types.proofs.fits.has_row.Given as goal

-- whether the id is there after all items is whether it is there after those that are left
abbrev pub invariant-loop-i : goal.invariant-loop-i
invariant-loop-i g l = record {
  fit : FitAll l.kind g.R.RowKind.part_of g.R.Keyed.id_of l.table (take (length l.items - l.i) l.items);
  there : is_some (row_of g.R.Keyed.id_of l.id (after_all l.kind g.R.RowKind.part_of l.table (take (length l.items - l.i) l.items)))
      ≡ is_some (row_of g.R.Keyed.id_of l.id (after_all l.kind g.R.RowKind.part_of l.table l.items));
}
