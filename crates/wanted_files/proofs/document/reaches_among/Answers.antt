use Rattle.std.proofs.Common.{◌≡◌, ◌∙◌, ◌+◌, ◌<◌, Some, ap, arith, drop, length, refl, sym}
use Rattle.std.proofs.lemmas.Option.{slice_get_read}
use Rattle.toml.specs.View.{items_view, view}
use Rattle.json_values.specs.Values.{more}
use Rattle.json_values.proofs.ListLemmas.{behind, behind_more}
use Rattle.wanted_files.specs.Document.{reach_of_value, reaches_among}
use Rattle.wanted_files.proofs.ItemLemmas.{items_from}
use Rattle.wanted_files.proofs.document.reaches_among.Goals as goal

pub loop-item-preserved : goal.loop-item-preserved
loop-item-preserved c =
    let items = c.args.items.now in
    let i = c.loop-item.item-index in
    let within : i < length items = omega arith in
    let got : reach_of_value (view c.item-item.result) ≡ Some c.in-Some.reach = sym c.in_ok-reach.ensures ∙ c.in-Some.is in
    let next : reaches_among (items_view (drop i items)) ≡ more (Some c.in-Some.reach) (reaches_among (items_view (drop (i + 1) items))) =
    ap reaches_among (items_from items i c.item-item.result (slice_get_read items (length items) i c.item-item.result refl within c.item-item.is))
    ∙ ap (λ o. more o (reaches_among (items_view (drop (i + 1) items)))) got in
    ap (λ w. behind w (reaches_among (items_view (drop (i + 1) items)))) c.in_ok-push.ensures.ok
    ∙ behind_more c.loop-item.wanted c.in-Some.reach (reaches_among (items_view (drop (i + 1) items)))
    ∙ ap (behind c.loop-item.wanted) (sym next)
    ∙ c.loop-item.invariant
