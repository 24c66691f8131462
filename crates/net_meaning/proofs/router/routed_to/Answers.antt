use Rattle.std.proofs.Common.{◌∙◌, sym, map}
use Rattle.std.proofs.lemmas.Result.{IfOk-weaker}
use Rattle.api_types.specs.RouterRows.{leg_of, legs_of, router_view}
use Rattle.plane_types.specs.Ends.{destination}
use Rattle.plane_types.specs.Parts.{destined_of, use_of}
use Rattle.net_meaning.proofs.LegLemmas.{own_among}
use Rattle.plane_types.proofs.RouteLemmas.{ends_expired, ends_own, goes_on}
use Rattle.net_meaning.proofs.router.routed_to.Goals as goal

pub returns-then-is_own : goal.returns-then-is_own
unfolding router_view
returns-then-is_own c =
    ends_own (router_view c.args.rows.now c.args.router.now) (map use_of c.args.uses.now) (leg_of c.args.port.now) (destined_of c.args.destined.now)
    (own_among (destination c.args.destined.now.packet.ends) (legs_of c.args.rows.now c.args.router.now) ∙ sym c.is_own.ensures ∙ c.if-is_own.true)

pub returns-then-destined-le1 : goal.returns-then-destined-le1
unfolding router_view
returns-then-destined-le1 c =
    ends_expired (router_view c.args.rows.now c.args.router.now) (map use_of c.args.uses.now) (leg_of c.args.port.now) (destined_of c.args.destined.now)
    (own_among (destination c.args.destined.now.packet.ends) (legs_of c.args.rows.now c.args.router.now) ∙ sym c.is_own.ensures ∙ c.if-is_own.false) c.if-destined-le1.true

pub returns : goal.returns
unfolding router_view
returns c =
    IfOk-weaker c.routed_on.result _ _
    (λ r h. h ∙ goes_on (router_view c.args.rows.now c.args.router.now) (map use_of c.args.uses.now) (leg_of c.args.port.now) (destined_of c.args.destined.now) (destined_of c.lower-lowered.result)
    (own_among (destination c.args.destined.now.packet.ends) (legs_of c.args.rows.now c.args.router.now) ∙ sym c.is_own.ensures ∙ c.if-is_own.false) c.if-destined-le1.false c.lower-lowered.ensures)
    c.routed_on.ensures
