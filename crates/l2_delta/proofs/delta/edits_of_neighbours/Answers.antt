use Rattle.std.proofs.Common.{◌∙◌, ap, sym}
use Rattle.std.specs.Prelude.{nat_lt}
use Rattle.table_edits.specs.EditsAt.{among}
use Rattle.table_edits.proofs.KindsAfter.{floatings_fit, routers_fit}
use Rattle.l2_delta.proofs.FloatingsStay.{Touches, floatings_stay}
use Rattle.l2_delta.proofs.delta.edits_of_neighbours.Goals as goal

pub of-requires : goal.of-requires
of-requires c =
    let change = c.args.change.now in
    routers_fit change.before.now change.items.now change.leads_on.fits

pub of-requires-2 : goal.of-requires-2
of-requires-2 c =
    let change = c.args.change.now in
    floatings_fit change.before.now change.items.now change.leads_on.fits

pub neighbour_edits-requires-clause-floatings_stay : goal.neighbour_edits-requires-clause-floatings_stay
neighbour_edits-requires-clause-floatings_stay c =
    let change = c.args.change.now in
    let by_routers = c.in_ok-by_routers.ensures in
    let by_floatings = c.in_ok-numbers.ensures in
    let routers = c.as_slice.ensures.value in
    let floatings = c.as_slice-2.ensures.value in
    let touches : Touches change.before.now change.after.now change.items.now change.old change.new change.ports c.in_ok-routers.routers c.in_ok-floatings.floatings c.args.ports.now
    c.as_slice.result.now c.as_slice-2.result.now =
    record {
      leads_on = change.leads_on;
      numbered = change.numbered;
      routed = c.in_ok-routers.ensures;
      ports_stay = c.requires.stay;
      networks = c.requires.networks;
      routers_stay = λ k off. by_routers.named k (ap (among nat_lt k) (sym routers) ∙ off);
      ports_before = λ k j r p off. by_routers.ports_before k j r p (ap (among nat_lt k) (sym routers) ∙ off);
      ports_after = λ k j r p off. by_routers.ports_after k j r p (ap (among nat_lt k) (sym routers) ∙ off);
      floatings_stay = λ k off. by_floatings.named k (ap (among nat_lt k) (sym floatings) ∙ off);
      routers_before = λ k j f t r off. by_floatings.routers_before k j f t r (ap (among nat_lt k) (sym floatings) ∙ off);
      routers_after = λ k j f t r off. by_floatings.routers_after k j f t r (ap (among nat_lt k) (sym floatings) ∙ off);
    } in
    floatings_stay change.before.now change.after.now change.items.now change.old change.new change.ports c.in_ok-routers.routers c.in_ok-floatings.floatings c.args.ports.now
    c.as_slice.result.now c.as_slice-2.result.now touches change.host.now
