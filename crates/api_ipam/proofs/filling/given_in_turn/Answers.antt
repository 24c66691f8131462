use Rattle.std.proofs.Common.{◌≡◌, ◌∙◌, ◌+◌, ◌++◌, ◌∷◌, [], ap, drop, option_map, sym}
use Rattle.std.proofs.lemmas.List.{at_drop_more}
use Rattle.api_types.specs.HeldAddresses.{fixed_at}
use Rattle.api_ipam.specs.Filling.{given_in_turn}
use Rattle.api_ipam.specs.FixedChoice.{Place, is_in}
use Rattle.api_ipam.proofs.PlaceLemmas.{given_next}
use Rattle.api_ipam.proofs.filling.given_in_turn.Goals as goal

pub loop-place-preserved : goal.loop-place-preserved
loop-place-preserved c =
    let places = c.args.places.now in
    let i = c.loop-place.place-index in
    let l = c.place-item.result in
    let held = is_in c.loop-place.held in
    let after = is_in c.take.new.self in
    let fixed = c.loop-place.fixed in
    let rest = drop (i + 1) places in
    let ahead = at_drop_more (λ ls. option_map (λ fs. fixed ++ fs) (given_in_turn held ls)) places i l c.loop-place-test.true
    ∙ ap (λ (x : Place). option_map (λ fs. fixed ++ fs) (given_in_turn held (x ∷ rest))) (sym c.place-item.is) in
    let pushed : c.push.new.self ≡ fixed ++ fixed_at l.subnet.id c.in-Some.address ∷ [] =
    c.in_ok-push.ensures.ok ∙ (λ j. fixed ++ fixed_at (c.subnet.ensures j).id c.in-Some.address ∷ []) in
    (λ j. option_map (λ fs. pushed j ++ fs) (given_in_turn after rest))
    ∙ (given_next held l rest c.in-Some.address after fixed (sym c.in-Some.ensures) c.in_ok-take.ensures ∙ (sym ahead ∙ c.loop-place.invariant))
