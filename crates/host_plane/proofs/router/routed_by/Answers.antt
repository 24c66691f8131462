use Rattle.std.proofs.Common.{◌∙◌, ◌++◌, refl, ap, sym}
use Rattle.std.specs.Prelude.{option_copied, option_map}
use Rattle.std.specs.Option.{unwrap_or}
use Rattle.plane_types.proofs.RouteLemmas.{out_found}
use Rattle.plane_types.specs.Ends.{destination}
use Rattle.plane_types.specs.Parts.{changed_of, packet_of, sourced_of}
use Rattle.plane_types.specs.Routing.{routed_out, sending_of, uses_by}
use Rattle.plane_types.specs.TableStep.{leg_at, table_routed, table_view}
use Rattle.host_plane.proofs.LegLists.{leg_among}
use Rattle.host_plane.proofs.router.routed_by.Goals as goal

pub returns-in-Some : goal.returns-in-Some
returns-in-Some c =
    let r = c.args.router.now in
    let v = table_view c.args.tables.now.lists r in
    let uses = uses_by r.snat r.gateway r.router (c.args.entries.now ++ c.args.fresh.now) in
    c.send_on.ensures
    ∙ ap (table_routed c.args.tables.now.lists r)
    (out_found v uses (leg_at c.args.port.now) (changed_of c.args.destined.now.by) (packet_of c.args.destined.now.packet) c.next_hop-hop.result _ _ (leg_at c.in-Some.out.now) (option_map sourced_of c.find_source-source.result) (sending_of (leg_at c.in-Some.out.now) c.next_hop-hop.result (option_map sourced_of c.find_source-source.result))
    (leg_among c.args.row.now.port r.ports ∙ ap (option_map leg_at) (sym c.port_of.ensures ∙ ap option_copied c.in-Some.is)) c.next_hop-hop.ensures c.find_source-source.ensures refl)

pub returns-in-None : goal.returns-in-None
returns-in-None c =
    let r = c.args.router.now in
    let v = table_view c.args.tables.now.lists r in
    let uses = uses_by r.snat r.gateway r.router (c.args.entries.now ++ c.args.fresh.now) in
    c.drop_frame.ensures
    ∙ ap (table_routed c.args.tables.now.lists r)
    (sym (ap (routed_out v uses (leg_at c.args.port.now) (changed_of c.args.destined.now.by) (packet_of c.args.destined.now.packet) (unwrap_or c.args.row.now.next (destination c.args.destined.now.packet.ends))) (leg_among c.args.row.now.port r.ports ∙ ap (option_map leg_at) (sym c.port_of.ensures ∙ ap option_copied c.in-None.is))))
