use Rattle.std.proofs.Common.{◌∙◌, ◌+◌, ◌<◌, ap, arith, length, sym, take}
use Rattle.std.proofs.lemmas.List.{take_all}
use Rattle.api_types.specs.Rows.{after, no_rows}
use Rattle.api_types.specs.TableItems.{with_kind}
use Rattle.api_types.proofs.BesideLemmas.{after_next, agree_next, fits_others, with_back}
use Rattle.api_types.proofs.KindLemmas.{Fits-at}
use Rattle.api_types.proofs.rows.Rows.others_after.Goals as goal

pub loop-item-init : goal.loop-item-init
loop-item-init c =
    let rows = c.args.self.now in
    ap (λ r. with_kind c.args.kind r rows) (c.in_ok-clear_kind.ensures ∙ ap (λ r. with_kind c.args.kind r no_rows) c.in_ok-others.ensures)
    ∙ with_back c.args.kind rows no_rows

pub apply_other-requires : goal.apply_other-requires
apply_other-requires c =
    let rows = c.args.self.now in
    let items = c.args.items.now in
    let i = c.loop-item.item-index in
    let within : i < length items = omega arith in
    fits_others c.args.kind c.loop-item.others (after rows (take i items)) c.item-item.result c.loop-item.invariant (Fits-at rows items c.item-item.result i within c.item-item.is c.requires)

-- an item of another kind goes to the other rows, as it does to all
pub loop-item-preserved : goal.loop-item-preserved
loop-item-preserved c =
    let kind = c.args.kind in
    let rows = c.args.self.now in
    let items = c.args.items.now in
    let i = c.loop-item.item-index in
    let item = c.item-item.result in
    let within : i < length items = omega arith in
    let next = after_next rows items i item within c.item-item.is in
    ap (λ r. with_kind kind r (after rows (take (i + 1) items))) c.in_ok-apply_other.ensures
    ∙ ap (with_kind kind _) next ∙ agree_next kind c.loop-item.others (after rows (take i items)) item c.loop-item.invariant ∙ sym next

pub returns : goal.returns
returns c =
    let rows = c.args.self.now in
    let items = c.args.items.now in
    let all = ap (after rows) (take_all c.loop-item.item-index items (omega arith)) in
    sym (ap (with_kind c.args.kind c.loop-item.others) all) ∙ c.loop-item.invariant ∙ all
