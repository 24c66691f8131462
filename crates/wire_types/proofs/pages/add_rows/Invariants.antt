use Rattle.std.proofs.Common.{◌≡◌, ◌++◌, map, take}
use Rattle.wire_types.specs.Pages.{page_row}
use Rattle.wire_types.proofs.pages.add_rows.Given as goal

-- the rows so far
abbrev pub invariant-loop-row : goal.invariant-loop-row
invariant-loop-row g l = l.page ≡ l.initial.page ++ map (λ r. page_row (g.R.RowKind.into_of r)) (take l.row-index l.rows)
