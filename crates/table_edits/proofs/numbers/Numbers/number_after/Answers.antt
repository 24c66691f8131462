use Rattle.std.proofs.Common.{◌≡◌, Some, subst, sym}
use Rattle.std.specs.Prelude.{IsSomeAnd}
use Rattle.api_types.specs.Table.{row_of}
use Rattle.plane_types.specs.Numbered.{rows_after}
use Rattle.plane_types.specs.NumberedRows.{row_items}
use Rattle.table_edits.specs.NumbersSeen.{Renumbered, at_after}
use Rattle.table_edits.proofs.numbers.Numbers.number_after.Goals as goal

pub returns : goal.returns
returns g c = λ r there.
    let seen : Renumbered g.row.R.Denot = record { rows = c.self.inside.table.now; items = row_items g.R.RowKind.kind_is g.R.RowKind.part_of c.self.inside.items.now } in
    subst (λ m. row_of g.R.Keyed.id_of c.args.id (rows_after m.rows m.items) ≡ Some r → IsSomeAnd c.number_now.result (λ k. at_after m k ≡ Some r)) c.self.view_is
    (λ h. subst (λ o. IsSomeAnd o (λ k. at_after seen k ≡ Some r)) (sym c.number_now.ensures) (c.self.invariant.finds c.args.id r h))
    there
