-- What a host's copies do with a packet on a vxlan network: the rule of the router, over the copy,
-- where the packet is near; otherwise nothing.
use Rattle.api_types.specs.Ident.{Ident}
use Rattle.api_types.specs.RouterViews.{Leg, RouterView}
use Rattle.api_types.specs.Table.{ident_eq}
use Rattle.dvr_types.specs.Near.{ends_in_router, is_for_outer_address}
use Rattle.dvr_types.specs.declared.copies.Copies.{Copies}
use Rattle.dvr_types.specs.declared.copies.CopyPort.{CopyPort}
use Rattle.dvr_types.specs.declared.copies.NearRow.{NearRow}
use Rattle.dvr_types.specs.declared.copies.NearTo.{NearTo}
use Rattle.dvr_types.specs.declared.copies.RouterCopy.{RouterCopy}
use Rattle.net_addr.specs.Addresses.{addr_eq}
use Rattle.net_addr.specs.Words.{MacAddress}
use Rattle.net_addr.specs.declared.address.Addr.{Addr}
use Rattle.plane_types.specs.Packets.{Packet}
use Rattle.plane_types.specs.Routing.{RouteEnds, RouteSends, Routed, routing_of}
use Rattle.plane_types.specs.TableStep.{floats_at_router, ways_at}
use Rattle.plane_types.specs.declared.verdict.DropCause.TheVariants.{NoHolder}
use Rattle.plane_types.specs.declared.verdict.Outcome.{Outcome}
use Rattle.plane_types.specs.declared.verdict.Outcome.TheVariants.{Dropped}
use Rattle.std.specs.List.{list_any}
use Rattle.std.specs.Prelude.{Bool, None, Option, Some, [], find, if◌then◌else◌, is_some, map, option_and_then, option_map, ◌&&◌, ◌==◌}

-- look-ups
abbrev pub is_interface_with : Ident → MacAddress → CopyPort → Bool
is_interface_with n mac x =
    ident_eq n x.network && (x.mac == mac) && x.inside && is_some x.number

abbrev pub copy_at : Copies → Ident → MacAddress → Option RouterCopy
copy_at c n mac =
    find (λ (r : RouterCopy). list_any (is_interface_with n mac) r.ports) c.copies

abbrev pub near_at : Copies → Ident → Addr → Option NearRow
near_at c n x = find (λ (r : NearRow). ident_eq n r.network && addr_eq r.address x) c.near

-- a copy as a router
abbrev pub copy_leg : CopyPort → Leg
copy_leg x = record {
  port = x.port;
  mac = x.mac;
  addresses = x.addresses;
  inside = x.inside;
}

abbrev pub copy_view : Copies → RouterCopy → RouterView
copy_view c r = record {
  id = r.router;
  up = r.up;
  snat = r.snat;
  gateway = r.gateway;
  legs = map copy_leg r.ports;
  ways = ways_at r.router c.copy_routes;
  floats = floats_at_router r.router c.copy_floats;
}

-- the packet ends here, where the router had sent it on to this network, or is on a network, on its
-- way to where an address leads
pub data CopyStep : Type 0 where
  CopyEnds : Outcome → Option Ident → CopyStep
  CopySends : Ident → NearTo → Packet → CopyStep

abbrev pub step_toward : Ident → Packet → Option NearRow → CopyStep
step_toward n p None = CopyEnds (Dropped NoHolder) (Some n)
step_toward n p (Some row) = CopySends n row.to (record p { dst = row.mac })

abbrev pub step_out : Copies → Addr → Packet → Option CopyPort → Option CopyStep
step_out c hop p None = None
step_out c hop p (Some x) =
    if x.inside && is_some x.number then Some (step_toward x.network p (near_at c x.network hop))
    else None

abbrev pub step_of_routing : Copies → RouterCopy → Routed → Option CopyStep
step_of_routing c r (RouteEnds o) = if ends_in_router o then Some (CopyEnds o None) else None
step_of_routing c r (RouteSends made out hop p) =
    if out.inside
    then step_out c hop p (find (λ (x : CopyPort). ident_eq out.port x.port) r.ports)
    else None

-- no entries are asked for, since what is near isn't translated
abbrev pub copy_step : Copies → RouterCopy → Packet → CopyPort → Option CopyStep
copy_step c r p x =
    if is_for_outer_address (copy_view c r) p then None
    else step_of_routing c r (routing_of (copy_view c r) [] (copy_leg x) p)

-- the router that handles a packet here, and how
pub record Handled : Type 0 where
  pub router : Ident
  pub step : CopyStep

abbrev pub handled_by : Copies → Ident → Packet → Option RouterCopy → Option Handled
handled_by c n p None = None
handled_by c n p (Some r) =
    option_map (λ (s : CopyStep). record { router = r.router; step = s })
    (option_and_then (copy_step c r p) (find (is_interface_with n p.dst) r.ports))

-- on this network
unfoldable pub handled_here : Copies → Ident → Packet → Option Handled
handled_here c n p = handled_by c n p (copy_at c n p.dst)
