use Rattle.std.proofs.Common.{◌∙◌, ap, sym, Some}
use Rattle.std.specs.Prelude.{option_and_then}
use Rattle.api_types.proofs.EditLemmas.{new_again}
use Rattle.api_types.proofs.edit.unedit.Goals as goal

pub insert-requires-clause-new_id : goal.insert-requires-clause-new_id
insert-requires-clause-new_id g c =
    new_again g.R.RowKind.part_of g.R.Keyed.id_of c.args.table.now c.args.item.now c.in_ok-row.row c.requires
    (ap (option_and_then g.R.RowKind.part_of) c.in-Some.is ∙ sym c.in-Some-part.ensures ∙ ap Some (sym (c.in_ok-row.ensures ∙ c.in_ok-copy.ensures)))
    (sym c.if-is_some.ensures)
