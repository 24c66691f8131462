use Rattle.std.proofs.Common.{◌∙◌, ◌++◌, ap, map}
use Rattle.std.proofs.lemmas.Result.{IfOk-weaker}
use Rattle.api_types.specs.RouterRows.{leg_of, router_view}
use Rattle.plane_types.specs.Parts.{destined_of, packet_of, use_of}
use Rattle.plane_types.proofs.RouteLemmas.{whole_route}
use Rattle.net_meaning.proofs.router.route.Goals as goal

pub returns : goal.returns
unfolding router_view
returns c =
    IfOk-weaker c.routed_to.result _ _
    (λ r h. h ∙ whole_route (router_view c.args.rows.now c.args.router.now) (c.args.entries.now ++ c.args.fresh.now) (leg_of c.args.port.now) (packet_of c.args.packet.now) (map use_of c.as_slice-uses.result.now) (destined_of c.find_destination-destined.result)
    c.if-not-router.false (ap (map use_of) c.as_slice-uses.ensures.value ∙ c.in_ok-uses.ensures) c.find_destination-destined.ensures)
    c.routed_to.ensures
