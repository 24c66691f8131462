use Rattle.std.proofs.Common.{◌≡◌, ◌∙◌, ◌+◌, ◌<◌, ap, arith, length, refl, subst, sym}
use Rattle.std.specs.Prelude.{if◌then◌else◌}
use Rattle.std.proofs.lemmas.Option.{slice_get_read}
use Rattle.net_addr.specs.Addresses.{addr_eq}
use Rattle.net_addr.specs.declared.address.Addr.TheVariants.{V4}
use Rattle.api_ipam.proofs.OrderLemmas.{fewer, held_on}
use Rattle.api_ipam.proofs.least.behind_fours.Goals as goal

-- an address that is the next one moves it on, and its number may be the greatest
pub loop-address-preserved : goal.loop-address-preserved
loop-address-preserved c =
    let held = c.args.held.now in
    let first = c.args.first in
    let a = c.address-item.result in
    let i = c.loop-address.address-index in
    let within : i < length held = omega arith in
    record {
      from = grind (arith, c.after_four-next.ensures.moved, c.loop-address.invariant.from);
      to = c.after_four-next.ensures.to;
      held = λ k less.
          held_on held first c.loop-address.next i a (slice_get_read held (length held) i a refl within c.address-item.is) c.loop-address.invariant.held k
          (subst (λ n. first + k < n) c.after_four-next.ensures.moved less);
      none = λ m less.
          fewer held first m i a within c.address-item.is (c.greatest_four-greatest.ensures.passed m less)
          ∙ c.loop-address.invariant.none m (omega (arith, c.greatest_four-greatest.ensures.most, less));
    }
