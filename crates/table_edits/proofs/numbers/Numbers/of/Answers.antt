use Rattle.std.proofs.Common.{◌≡◌, ◌∙◌, ◌+◌, ◌≤◌, ◌<◌, [], ◌∷◌, Some, suc, ap, arith, drop, false, length, rules, slice_get, subst, sym, true, true≢false}
use Rattle.std.specs.Prelude.{nat_eq, option_and_then}
use Rattle.std.specs.HashMap.{get}
use Rattle.std.proofs.Math.Path.{transport}
use Rattle.std.proofs.lemmas.List.{drop_all, drop_more}
use Rattle.std.proofs.lemmas.Option.{slice_get_read}
use Rattle.api_types.specs.Table.{HaveOwnIds, ident_eq}
use Rattle.plane_types.specs.NumberedRows.{is_kind, row_item, row_items}
use Rattle.table_edits.specs.NumbersTold.{FitRows, left_by}
use Rattle.table_edits.proofs.SameKinds.{other_kind, same_kind}
use Rattle.table_edits.proofs.NumbersTold.{SoFar, begun, items_of, items_of_others, step, told}
use Rattle.table_edits.proofs.numbers.Numbers.of.Goals as goal
use Rattle.table_edits.proofs.numbers.Numbers.of.Goals.{then-is_of+in_ok-tell, else-is_of}

pub loop-place-init : goal.loop-place-init
loop-place-init g c =
    let id_of = g.R.Keyed.id_of in
    let part = g.R.RowKind.part_of in
    let items = c.args.items.now in
    let table = c.table-table.result.now in
    let all = row_items g.R.RowKind.kind_is part items in
    let own : HaveOwnIds id_of table = c.rows-next.ensures.own_ids in
    let fits : FitRows id_of table all = subst (λ l. FitRows id_of l all) (sym c.table-table.ensures) c.requires in
    let same : c.rows-next.result.now ≡ table = c.rows-next.ensures.rows in (
      subst (λ n. SoFar id_of part items table all all n (get nat_eq c.new.result) (get ident_eq c.new-2.result) c.new-3.result.items) (ap length (sym same))
          (begun id_of part items table all own fits (get nat_eq c.new.result) (get ident_eq c.new-2.result) (λ k. search rules) (λ i. search rules) c.new-3.result.items),
      subst (λ l. length l ≤ length table + 0) (sym same) (omega arith),
    )

pub loop-place-preserved : goal.loop-place-preserved
loop-place-preserved g c =
    let id_of = g.R.Keyed.id_of in
    let kind = g.R.RowKind.kind_is in
    let part = g.R.RowKind.part_of in
    let items = c.args.items.now in
    let table = c.table-table.result.now in
    let all = row_items kind part items in
    let place = c.loop-place.place in
    let item = c.index-items-place.result in
    let left = drop (place + 1) items in
    let next = c.loop-place.next in
    let was = c.loop-place.told in
    let within : place < length items = omega (arith, c.loop-place-test.true) in
    let at : drop place items ≡ item ∷ left = drop_more items place item within ∙ ap (λ x. x ∷ left) (sym c.index-items-place.is) in
    let rest = subst (λ l. SoFar id_of part items table all (row_items kind part l) next (get nat_eq was.last) (get ident_eq was.made) was.named.items) at c.loop-place.invariant.0 in
    let got : slice_get items place ≡ Some item = slice_get_read items (length items) place item (λ j. length items) within c.index-items-place.is in
    elim c.if-is_of.branch [
      | then-is_of+in_ok-tell w ↦
          (let mine : is_kind kind item.kind ≡ true = same_kind kind item.kind (c.is_of.ensures.0 w.if-is_of.true ∙ c.kind-kind.ensures) in
          let it = row_item kind part item in
          let so_far = subst (λ l. SoFar id_of part items table all l next (get nat_eq was.last) (get ident_eq was.made) was.named.items) (items_of kind part item left mine) rest in
          let t = w.tell.new.told in
          let suc_is : suc next ≡ c.if-is_of.next = (let up = w.next-is in omega (arith, up)) in
          let now = step id_of part items table all it (row_items kind part left) next (get nat_eq was.last) (get nat_eq t.last) (get ident_eq was.made) (get ident_eq t.made) was.named.items t.named.items place so_far
          (ap (option_and_then (left_by part)) got) w.in_ok-tell.ensures.last w.in_ok-tell.ensures.made w.in_ok-tell.ensures.named in (
            transport (λ j. SoFar id_of part items table all (row_items kind part left) (suc_is j) (get nat_eq (sym w.told-is j).last) (get ident_eq (sym w.told-is j).made) (sym w.told-is j).named.items) now,
            (let low = c.loop-place.invariant.1 in let up = w.next-is in omega (arith, low, up)),
          ))
      | else-is_of w ↦
          (let other : is_kind kind item.kind ≡ false = other_kind kind item.kind (λ e. true≢false (sym (c.is_of.ensures.1 (e ∙ sym c.kind-kind.ensures)) ∙ w.if-is_of.false)) in
          let now = subst (λ l. SoFar id_of part items table all l next (get nat_eq was.last) (get ident_eq was.made) was.named.items) (items_of_others kind part item left other) rest in (
            transport (λ j. SoFar id_of part items table all (row_items kind part left) (sym w.next-is j) (get nat_eq (sym w.told-is j).last) (get ident_eq (sym w.told-is j).made) (sym w.told-is j).named.items) now,
            (let low = c.loop-place.invariant.1 in let up = w.next-is in omega (arith, low, up)),
          ))
    ]

pub invariant_of-result : goal.invariant_of-result
invariant_of-result g c =
    let id_of = g.R.Keyed.id_of in
    let kind = g.R.RowKind.kind_is in
    let part = g.R.RowKind.part_of in
    let items = c.args.items.now in
    let table = c.table-table.result.now in
    let all = row_items kind part items in
    let t = c.loop-place.told in
    let end : row_items kind part (drop c.loop-place.place items) ≡ [] = ap (row_items kind part) (drop_all c.loop-place.place items (omega (arith, c.loop-place-test.false))) in
    told id_of part items table all c.loop-place.next (get nat_eq t.last) (get ident_eq t.made) t.named.items
    (subst (λ l. SoFar id_of part items table all l c.loop-place.next (get nat_eq t.last) (get ident_eq t.made) t.named.items) end c.loop-place.invariant.0)
