use Rattle.std.proofs.Common.{◌≡◌, ◌∙◌, None, Some, ap, slice_get, sym}
use Rattle.std.specs.Prelude.{option_and_then, option_copied}
use Rattle.table_edits.specs.NumbersTold.{left_by}
use Rattle.table_edits.proofs.PlaceLemmas.{got_at}
use Rattle.table_edits.proofs.numbers.row_by.Goals as goal

pub returns-in-Some : goal.returns-in-Some
returns-in-Some g c =
    let items = c.args.items.now in
    let at : Some c.in-Some.item.now ≡ slice_get items c.args.place = ap option_copied (sym c.in-Some.is) ∙ got_at items c.args.place c.get.result c.get.ensures.lookup.3 in
    c.part_of.ensures ∙ ap (option_and_then (left_by g.R.RowKind.part_of)) at

pub returns-in-None : goal.returns-in-None
returns-in-None g c =
    let items = c.args.items.now in
    let at : None ≡ slice_get items c.args.place = ap option_copied (sym c.in-None.is) ∙ got_at items c.args.place c.get.result c.get.ensures.lookup.3 in
    ap (option_and_then (left_by g.R.RowKind.part_of)) at
