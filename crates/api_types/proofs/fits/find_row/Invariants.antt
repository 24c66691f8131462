use Rattle.std.proofs.Common.{◌≡◌, ◌+◌, ◌-◌, ◌≤◌, take, length, slice_get}
use Rattle.api_types.specs.TableItems.{after_all, FitAll}
use Rattle.api_types.proofs.fits.find_row.Given as goal

-- what stands at the place after all items stands at another place after the items that are left
abbrev pub invariant-loop-i : goal.invariant-loop-i
invariant-loop-i g l = record {
  fit : FitAll l.kind g.R.RowKind.part_of g.R.Keyed.id_of l.table (take (length l.items - l.i) l.items);
  stands : slice_get (after_all l.kind g.R.RowKind.part_of l.table (take (length l.items - l.i) l.items)) l.at
      ≡ slice_get (after_all l.kind g.R.RowKind.part_of l.table l.items) l.place;
  near : l.at ≤ l.place + l.i;
}
