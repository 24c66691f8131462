-- A copy's step as code has it, and the router's rule without translation.
use Rattle.api_types.specs.Ident.{Ident}
use Rattle.api_types.specs.RouterViews.{Way}
use Rattle.api_types.specs.Table.{ident_eq}
use Rattle.dvr_fabric.specs.declared.copies.Handled.{Handled as TheirHandled}
use Rattle.dvr_fabric.specs.declared.rule.CopyStep.{CopyStep as TheirStep}
use Rattle.dvr_fabric.specs.declared.rule.CopyStep.TheVariants.{Absorbed as TheirAbsorbed, Dropped as TheirDropped, Sends as TheirSends}
use Rattle.dvr_types.specs.CopySteps.{CopyEnds, CopySends, CopyStep, Handled, copy_view, near_at, step_toward}
use Rattle.dvr_types.specs.DvrFabric.{passed_by_copy}
use Rattle.dvr_types.specs.Near.{is_for_outer_address}
use Rattle.dvr_types.specs.declared.copies.Copies.{Copies}
use Rattle.dvr_types.specs.declared.copies.CopyPort.{CopyPort}
use Rattle.dvr_types.specs.declared.copies.RouterCopy.{RouterCopy}
use Rattle.net_addr.specs.declared.address.Addr.{Addr}
use Rattle.plane_types.specs.Ends.{destination}
use Rattle.plane_types.specs.Packets.{Packet}
use Rattle.plane_types.specs.Parts.{packet_of}
use Rattle.plane_types.specs.Routing.{best_way, is_own}
use Rattle.plane_types.specs.TableStep.{ways_at}
use Rattle.plane_types.specs.declared.verdict.DropCause.{DropCause}
use Rattle.plane_types.specs.declared.verdict.DropCause.TheVariants.{Expired, NoRoute, RouterDown}
use Rattle.plane_types.specs.declared.verdict.Outcome.TheVariants.{Absorbed, Dropped}
use Rattle.std.specs.Option.{unwrap_or}
use Rattle.std.specs.Prelude.{List, [], None, Option, Some, find, if◌then◌else◌, is_some, nat_le, not, option_map, ◌-◌, ◌∷◌, ◌||◌}

abbrev pub view_of_copy_step : TheirStep → CopyStep
view_of_copy_step (TheirAbsorbed router) = CopyEnds (Absorbed router) None
view_of_copy_step (TheirDropped cause way) = CopyEnds (Dropped cause) way
view_of_copy_step (TheirSends network to packet) = CopySends network to.now (packet_of packet)

-- what a copy's step adds to the path
abbrev pub ids_after : Ident → CopyStep → List Ident
ids_after router (CopyEnds o way) = passed_by_copy router way
ids_after router (CopySends n to p) = router ∷ n ∷ []

abbrev pub view_of_handled : TheirHandled → Handled
view_of_handled h = record { router = h.router; step = view_of_copy_step h.step }

-- what neither a floating address nor an entry changes: down, own address, time to live, route, and
-- out by an interface on a vxlan network
abbrev pub copy_drop : DropCause → Option CopyStep
copy_drop cause = Some (CopyEnds (Dropped cause) None)

abbrev pub plain_out : Copies → Addr → Packet → Option CopyPort → Option CopyStep
plain_out c hop p None = None
plain_out c hop p (Some x) =
    if not x.inside || not (is_some x.number) then None
    else Some
    (step_toward x.network (record p { src = x.mac; ttl = p.ttl - 1 }) (near_at c x.network hop))

abbrev pub plain_way : Copies → RouterCopy → Packet → Option Way → Option CopyStep
plain_way c r p None = copy_drop NoRoute
plain_way c r p (Some w) =
    plain_out c (unwrap_or w.next (destination p.ends)) p
    (find (λ (x : CopyPort). ident_eq w.port x.port) r.ports)

abbrev pub plain_rule : Copies → RouterCopy → Packet → Option CopyStep
plain_rule c r p =
    if not r.up then copy_drop RouterDown
    else if is_own (copy_view c r) (destination p.ends)
    then Some (CopyEnds (Absorbed r.router) None)
    else if nat_le p.ttl 1 then copy_drop Expired
    else plain_way c r p (best_way (destination p.ends) (ways_at r.router c.copy_routes))

-- the router that handles a packet by its copy, and how
abbrev pub plain_handled : Copies → RouterCopy → Packet → Option Handled
plain_handled c r p =
    if is_for_outer_address (copy_view c r) p then None
    else option_map (λ (s : CopyStep). record { router = r.router; step = s }) (plain_rule c r p)
