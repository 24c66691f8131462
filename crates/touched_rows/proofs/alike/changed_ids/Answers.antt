use Rattle.std.proofs.Common.{◌≡◌, ◌∙◌, ◌+◌, List, ◌∷◌, ap, drop, sym}
use Rattle.std.specs.Prelude.{option_and_then}
use Rattle.std.proofs.lemmas.List.{at_drop_more}
use Rattle.api_types.specs.Table.{row_of}
use Rattle.api_types.specs.declared.change.Item.{Item}
use Rattle.api_types.proofs.NameLemmas.{by_test}
use Rattle.plane_types.specs.NumberedRows.{row_items}
use Rattle.plane_types.proofs.UnnamedLemmas.{is_id, names}
use Rattle.touched_rows.specs.RowStays.{RowStays}
use Rattle.touched_rows.proofs.AlikeLemmas.{none_named, unnamed_alike}
use Rattle.touched_rows.proofs.alike.changed_ids.Goals as goal

pub loop-item-init : goal.loop-item-init
loop-item-init g c = λ n away none.
    unnamed_alike g.R.Alike.alike g.R.Alike.itself g.R.Keyed.id_of n c.args.before.now c.args.after.now (row_items g.R.RowKind.kind_is g.R.RowKind.part_of c.args.items.now) c.requires.fits c.requires.leads none

pub loop-item-preserved : goal.loop-item-preserved
loop-item-preserved g c = λ n away none.
    let id_of = g.R.Keyed.id_of in
    let kind = g.R.RowKind.kind_is in
    let part = g.R.RowKind.part_of in
    let items = c.args.items.now in
    let i = c.loop-item.item-index in
    let item = c.item-item.result in
    let stays : Type 0 = RowStays g.R.Alike.alike (row_of id_of n c.args.before.now) (row_of id_of n c.args.after.now) in
    let here : names id_of n (row_items kind part (drop i items)) ≡ names id_of n (row_items kind part (item ∷ drop (i + 1) items)) =
    at_drop_more (λ (xs : List Item). names id_of n (row_items kind part xs)) items i item c.loop-item-test.true
    ∙ ap (λ (x : Item). names id_of n (row_items kind part (x ∷ drop (i + 1) items))) (sym c.item-item.is) in
    let second = c.in_ok-add_changed-2.ensures.keeps n away in
    by_test (is_id id_of n (option_and_then part item.before)) stays (c.in_ok-add_changed.ensures.tells n second)
    (λ no_old. by_test (is_id id_of n (option_and_then part item.after)) stays (c.in_ok-add_changed-2.ensures.tells n away)
    (λ no_new. c.loop-item.invariant n (c.in_ok-add_changed.ensures.keeps n second) (here ∙ none_named id_of n kind part item (drop (i + 1) items) no_old no_new none)))
