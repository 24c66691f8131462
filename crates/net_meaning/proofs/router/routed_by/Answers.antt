use Rattle.std.proofs.Common.{◌∙◌, ap, sym, map}
use Rattle.std.specs.Prelude.{option_copied, option_map}
use Rattle.api_types.specs.RouterRows.{leg_of, legs_of, router_view}
use Rattle.plane_types.specs.Routing.{routed_out}
use Rattle.plane_types.specs.Parts.{changed_of, packet_of, sourced_of, use_of}
use Rattle.net_meaning.specs.Views.{routed_of}
use Rattle.net_meaning.proofs.LegLemmas.{leg_among}
use Rattle.plane_types.proofs.RouteLemmas.{out_found}
use Rattle.net_meaning.proofs.router.routed_by.Goals as goal

pub returns-in-Some : goal.returns-in-Some
unfolding router_view
returns-in-Some c =
    out_found (router_view c.args.rows.now c.args.router.now) (map use_of c.args.uses.now) (leg_of c.args.port.now) (changed_of c.args.destined.now.by) (packet_of c.args.destined.now.packet) c.next_hop-hop.result _ _ (leg_of c.in-Some.out.now) (option_map sourced_of c.find_source-source.result) (routed_of c.send_on.result)
    (leg_among c.args.way.now.port (legs_of c.args.rows.now c.args.router.now) ∙ ap (option_map leg_of) (sym c.leg.ensures ∙ ap option_copied c.in-Some.is)) c.next_hop-hop.ensures c.find_source-source.ensures c.send_on.ensures

pub returns-in-None : goal.returns-in-None
unfolding router_view
returns-in-None c =
    sym (ap (routed_out (router_view c.args.rows.now c.args.router.now) (map use_of c.args.uses.now) (leg_of c.args.port.now) (changed_of c.args.destined.now.by) (packet_of c.args.destined.now.packet) _) (leg_among c.args.way.now.port (legs_of c.args.rows.now c.args.router.now) ∙ ap (option_map leg_of) (sym c.leg.ensures ∙ ap option_copied c.in-None.is)))
