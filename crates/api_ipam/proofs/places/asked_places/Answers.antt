use Rattle.std.proofs.Common.{◌≡◌, ◌∙◌, ◌+◌, ◌++◌, ◌∷◌, List, [], ap, append_assoc, arith, drop, refl, sym}
use Rattle.std.proofs.lemmas.List.{at_drop_all, at_drop_more}
use Rattle.api_types.specs.declared.form.FixedAsked.{FixedAsked}
use Rattle.api_ipam.specs.FixedChoice.{Place, is_in, item_subnet, named_addresses, wishes}
use Rattle.api_ipam.specs.Filling.{place_for}
use Rattle.api_ipam.proofs.PlaceLemmas.{next_turn, placed, placed_is}
use Rattle.api_ipam.proofs.places.asked_places.Goals as goal

append_nil : (xs : List Place) → xs ++ [] ≡ xs
append_nil [] = refl
append_nil (x ∷ xs) = ap (λ ys. x ∷ ys) (append_nil xs)

pub loop-item-preserved : goal.loop-item-preserved
loop-item-preserved c =
    let mac = c.args.mac in
    let old = c.args.old.now in
    let subnets = c.args.subnets.now in
    let items = c.args.items.now in
    let i = c.loop-item.item-index in
    let item = c.item-item.result in
    let taken = c.loop-item.taken in
    let rest = drop (i + 1) items in
    let place = place_for mac old taken item (item_subnet subnets item) in
    let ahead = at_drop_more (λ xs. placed mac old (is_in taken) (wishes subnets xs)) items i item c.loop-item-test.true
    ∙ ap (λ (x : FixedAsked). placed mac old (is_in taken) (wishes subnets (x ∷ rest))) (sym c.item-item.is) in
    (λ j. c.in_ok-add_place.ensures.places j ++ placed mac old (is_in (c.in_ok-add_place.ensures.taken j)) (wishes subnets rest))
    ∙ (append_assoc c.loop-item.places.items place _
    ∙ (ap (λ xs. c.loop-item.places.items ++ xs) (sym (ahead ∙ next_turn mac old subnets taken item rest)) ∙ c.loop-item.invariant))

pub returns : goal.returns
returns c =
    let mac = c.args.mac in
    let old = c.args.old.now in
    let subnets = c.args.subnets.now in
    let items = c.args.items.now in
    let taken = c.loop-item.taken in
    let behind = at_drop_all (λ xs. placed mac old (is_in taken) (wishes subnets xs)) items c.loop-item.item-index (omega arith) in
    sym (append_nil c.loop-item.places.items) ∙ (ap (λ xs. c.loop-item.places.items ++ xs) (sym behind)
    ∙ (c.loop-item.invariant ∙ sym (placed_is mac old (named_addresses items) (wishes subnets items))))
