use Rattle.std.proofs.Common.{◌∙◌, ap, subst, sym}
use Rattle.std.specs.Prelude.{nat_lt}
use Rattle.table_edits.specs.EditsAt.{KeysDescend, among}
use Rattle.table_edits.proofs.KindsAfter.{routers_fit}
use Rattle.l3_delta.specs.RouterStays.{RoutersStay}
use Rattle.l3_delta.proofs.delta.delta_of.Goals as goal

pub of-requires : goal.of-requires
of-requires c =
    let change = c.args.change.now in
    routers_fit change.before.now change.items.now change.leads_on.fits

pub float_edits-requires-clause-named : goal.float_edits-requires-clause-named
float_edits-requires-clause-named c = λ k off.
    c.in_ok-numbers.ensures.named k (ap (among nat_lt k) (sym c.as_slice-touched.ensures.value) ∙ off)

pub routed_edits-requires-clause-down : goal.routed_edits-requires-clause-down
routed_edits-requires-clause-down c =
    subst (KeysDescend nat_lt) (sym c.as_slice-touched.ensures.value) c.in_ok-numbers.ensures.down

pub routed_edits-requires-clause-named : goal.routed_edits-requires-clause-named
routed_edits-requires-clause-named c = λ k off.
    c.in_ok-numbers.ensures.named k (ap (among nat_lt k) (sym c.as_slice-touched.ensures.value) ∙ off)

pub routed_edits-requires-clause-stay : goal.routed_edits-requires-clause-stay
routed_edits-requires-clause-stay c =
    let change = c.args.change.now in
    subst
    (RoutersStay change.before.now change.after.now change.ports change.old change.new
    c.in_ok-routers.routers)
    (sym c.as_slice-touched.ensures.value) c.in_ok-numbers.ensures.stay
