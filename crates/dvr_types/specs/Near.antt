-- Which packets a copy of a router may handle on any host: those that it doesn't translate (RFC
-- 3022), and that stay on vxlan networks or end in the router (RFC 1812, 5.2.1 and 5.3.1).
use Rattle.api_types.specs.RouterRows.{leg_of, legs_of, router_view}
use Rattle.api_types.specs.RouterViews.{Float, RouterView}
use Rattle.api_types.specs.RowLists.{RowLists}
use Rattle.api_types.specs.Table.{ident_eq}
use Rattle.api_types.specs.declared.port.PortRow.{PortRow}
use Rattle.api_types.specs.declared.router.RouterRow.{RouterRow}
use Rattle.dvr_types.specs.Copies.{is_vxlan_interface}
use Rattle.net_addr.specs.Addresses.{addr_eq}
use Rattle.net_addr.specs.declared.address.Addr.{Addr}
use Rattle.net_addr.specs.declared.address.Addr.TheVariants.{V4}
use Rattle.plane_types.specs.Ends.{destination}
use Rattle.plane_types.specs.Packets.{Packet}
use Rattle.plane_types.specs.Routing.{RouteEnds, RouteSends, Routed, routing_of}
use Rattle.plane_types.specs.declared.entry.Entry.{Entry}
use Rattle.plane_types.specs.declared.verdict.DropCause.{DropCause}
use Rattle.plane_types.specs.declared.verdict.DropCause.TheVariants.{Dead, Egress as EgressFilter, Expired, Ingress as IngressFilter, NoHolder, NoLease, NoRoute, RouterDown, Spoof, TranslationFull, Unknown, Unsupported}
use Rattle.plane_types.specs.declared.verdict.Outcome.{Outcome}
use Rattle.plane_types.specs.declared.verdict.Outcome.TheVariants.{Absorbed, Answered, Delivered, Dropped, Out}
use Rattle.std.specs.List.{list_any}
use Rattle.std.specs.Prelude.{Bool, List, None, Option, Some, false, find, not, true, ℕ, ◌&&◌, ◌||◌}

-- the packet is for a floating address of the router or for its gateway address, so that a floating
-- address or an entry may change its destination
abbrev pub is_gateway_address : Option ℕ → Addr → Bool
is_gateway_address None x = false
is_gateway_address (Some outer) x = addr_eq (V4 outer) x

abbrev pub is_for_outer_address : RouterView → Packet → Bool
is_for_outer_address v p =
    list_any (λ (f : Float). addr_eq (V4 f.floating) (destination p.ends)) v.floats
    || is_gateway_address v.gateway (destination p.ends)

-- the router itself has it, or drops it
abbrev pub is_router_drop : DropCause → Bool
is_router_drop RouterDown = true
is_router_drop Expired = true
is_router_drop NoRoute = true
is_router_drop Dead = false
is_router_drop Unsupported = false
is_router_drop Spoof = false
is_router_drop EgressFilter = false
is_router_drop IngressFilter = false
is_router_drop Unknown = false
is_router_drop NoHolder = false
is_router_drop NoLease = false
is_router_drop TranslationFull = false

abbrev pub ends_in_router : Outcome → Bool
ends_in_router (Absorbed r) = true
ends_in_router (Dropped c) = is_router_drop c
ends_in_router (Delivered q f) = false
ends_in_router (Answered a) = false
ends_in_router (Out n t f) = false

-- or it leaves by an interface on a vxlan network
abbrev pub is_vxlan_leg : RowLists → Option PortRow → Bool
is_vxlan_leg rows None = false
is_vxlan_leg rows (Some p) = is_vxlan_interface rows p

abbrev pub stays_near : RowLists → RouterRow → Routed → Bool
stays_near rows r (RouteEnds o) = ends_in_router o
stays_near rows r (RouteSends made out hop p) =
    out.inside
    && is_vxlan_leg rows (find (λ (x : PortRow). ident_eq out.port x.id) (legs_of rows r))

-- the packet comes to the router by its live port `q`
unfoldable pub is_near : RowLists → List Entry → RouterRow → PortRow → Packet → Bool
is_near rows entries r q p =
    is_vxlan_interface rows q && not (is_for_outer_address (router_view rows r) p)
    && stays_near rows r (routing_of (router_view rows r) entries (leg_of q) p)
