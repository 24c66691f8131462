use Rattle.std.proofs.Common.{◌≡◌, List, Option, not, subst, sym}
use Rattle.std.specs.Prelude.{IfOk}
use Rattle.api_types.specs.declared.port.Fixed.{Fixed}
use Rattle.api_ipam.specs.FixedChoice.{is_in, known_addresses}
use Rattle.api_ipam.proofs.PlaceLemmas.{filled_is, neither}
use Rattle.api_ipam.proofs.filling.all_filled.Goals as goal

pub returns : goal.returns
returns c =
    let places = c.args.places.now in
    let held = c.args.held in
    let after = c.take_known.new.held in
    let known = known_addresses places in
    subst (λ (o : Option (List Fixed)). IfOk c.given_in_turn.result (λ r. r ≡ o))
    (sym (filled_is (λ x. not (is_in held x)) known (is_in after) places (λ x. neither (is_in held x) (is_in known x) (is_in after x) (c.in_ok-take_known.ensures x))))
    c.given_in_turn.ensures
