-- One look-up in the tables of one host, by the place at which a frame is there.
use Rattle.std.specs.Prelude.{ℕ, Bool, true, false, not, ◌&&◌, ◌||◌, ◌==◌, List, [], map, Option, Some, None, find, if◌then◌else◌}
use Rattle.std.specs.List.{list_any, filter_map}
use Rattle.net_addr.specs.Addresses.{addr_eq}
use Rattle.net_addr.specs.Words.{MacAddress}
use Rattle.net_addr.specs.declared.address.Addr.{Addr}
use Rattle.net_addr.specs.declared.address.Addr.TheVariants.{V4}
use Rattle.net_addr.specs.Prefixes.{contains}
use Rattle.api_types.specs.Ident.{Ident}
use Rattle.api_types.specs.Table.{ident_eq}
use Rattle.api_types.specs.declared.group.Direction.{Direction}
use Rattle.api_types.specs.declared.group.Direction.TheVariants.{Egress, Ingress}
use Rattle.api_types.specs.declared.port.Pair.{Pair}
use Rattle.plane_types.specs.Ends.{destination, source}
use Rattle.plane_types.specs.Filter.{parts_fit}
use Rattle.plane_types.specs.Hosts.{bridge_key_eq}
use Rattle.api_types.specs.Wires.{wire_eq}
use Rattle.plane_types.specs.Packets.{AddressAsk, Packet, address_ask, ask_frame, ip_frame, is_unsupported, key_of, packet}
use Rattle.plane_types.specs.Passage.{Passage, passage}
use Rattle.plane_types.specs.Places.{Bridge, DhcpIn, End, Next, Place, RouterIn, Step, TapIn, TapOut, ToTunnel, ToWire, TunnelIn, WireIn}
use Rattle.plane_types.specs.Routing.{RouteEnds, RouteSends, Routed, routing_of}
use Rattle.api_types.specs.RouterViews.{Float, Leg, RouterView, Way}
use Rattle.plane_types.specs.declared.entry.Entry.{Entry}
use Rattle.plane_types.specs.declared.frame.Frame.{Frame}
use Rattle.plane_types.specs.declared.frame.Frame.TheVariants.{Dhcp, Ip, NeighbourAsk, Other}
use Rattle.plane_types.specs.declared.frame.Key.{Key}
use Rattle.plane_types.specs.declared.table.BridgeKey.{BridgeKey}
use Rattle.plane_types.specs.declared.table.BridgeKey.TheVariants.{Dhcp as AtDhcp, Mac as AtMac}
use Rattle.plane_types.specs.declared.table.BridgeRow.{BridgeRow}
use Rattle.plane_types.specs.declared.table.BridgeTo.{BridgeTo}
use Rattle.plane_types.specs.declared.table.BridgeTo.TheVariants.{Tunnel as ToHost, Router as ToRouter, Tap as ToTap}
use Rattle.plane_types.specs.declared.table.Carrier.{Carrier}
use Rattle.plane_types.specs.declared.table.Carrier.TheVariants.{Tunnel as ByTunnel, Wire as ByWire}
use Rattle.plane_types.specs.declared.table.FilterRow.{FilterRow}
use Rattle.plane_types.specs.declared.table.FloatRow.{FloatRow}
use Rattle.plane_types.specs.declared.table.InwardRow.{InwardRow}
use Rattle.plane_types.specs.declared.table.LeaseRow.{LeaseRow}
use Rattle.plane_types.specs.declared.table.NeighbourRow.{NeighbourRow}
use Rattle.plane_types.specs.declared.table.RouteRow.{RouteRow}
use Rattle.plane_types.specs.declared.table.RouterPort.{RouterPort}
use Rattle.plane_types.specs.declared.table.RouterTable.{RouterTable}
use Rattle.plane_types.specs.declared.table.SetRow.{SetRow}
use Rattle.plane_types.specs.declared.table.TagRow.{TagRow}
use Rattle.plane_types.specs.declared.table.TapRow.{TapRow}
use Rattle.api_types.specs.declared.wire.Wire.{Wire}
use Rattle.plane_types.specs.declared.lists.TableLists.{TableLists}
use Rattle.plane_types.specs.declared.verdict.AskAnswer.TheVariants.{Arp as ArpAnswer, Lease as LeaseAnswer}
use Rattle.plane_types.specs.declared.verdict.DropCause.{DropCause}
use Rattle.plane_types.specs.declared.verdict.DropCause.TheVariants.{Dead, Egress as EgressFilter, Ingress as IngressFilter, NoHolder, NoLease, Spoof, Unknown, Unsupported}
use Rattle.plane_types.specs.declared.verdict.Outcome.{Outcome}
use Rattle.plane_types.specs.declared.verdict.Outcome.TheVariants.{Answered, Delivered, Dropped, Out}
use Rattle.plane_types.specs.declared.verdict.Toward.{Toward}
use Rattle.plane_types.specs.declared.verdict.Toward.TheVariants.{Address as TowardAddress, Dhcp as TowardDhcp, Mac as TowardMac}

-- a step, with the entries that it makes
pub record Stepped : Type 0 where
  pub step : Step
  pub made : List Entry

abbrev pub plain : Step → Stepped
plain s = record { step = s; made = [] }

abbrev pub stops : Outcome → Step
stops o = End o None

abbrev pub drops : DropCause → Step
drops c = stops (Dropped c)

-- look-ups
abbrev pub tap_at : TableLists → Ident → Option TapRow
tap_at t port = find (λ (r : TapRow). ident_eq port r.port) t.taps

abbrev pub tag_row : TableLists → ℕ → Option TagRow
tag_row t tag = find (λ (r : TagRow). r.tag == tag) t.tags

abbrev pub neighbour_at : TableLists → ℕ → Addr → Option NeighbourRow
neighbour_at t tag x =
    find (λ (r : NeighbourRow). (r.tag == tag) && addr_eq r.address x) t.neighbours

abbrev pub bridge_at : TableLists → ℕ → BridgeKey → Option BridgeRow
bridge_at t tag key = find (λ (r : BridgeRow). (r.tag == tag) && bridge_key_eq r.key key) t.bridge

abbrev pub carrier_eq : Carrier → Carrier → Bool
carrier_eq (ByWire v) (ByWire w) = wire_eq v w
carrier_eq (ByTunnel a) (ByTunnel b) = a == b
carrier_eq (ByWire v) (ByTunnel b) = false
carrier_eq (ByTunnel a) (ByWire w) = false

abbrev pub inward_at : TableLists → Carrier → Option InwardRow
inward_at t carrier = find (λ (r : InwardRow). carrier_eq carrier r.carrier) t.inward

-- filters
abbrev pub in_set : TableLists → Ident → Addr → Bool
in_set t group x = list_any (λ (s : SetRow). ident_eq group s.group && contains s.prefix x) t.sets

abbrev pub row_fits : TableLists → Direction → Key → FilterRow → Bool
row_fits t direction key r =
    parts_fit (in_set t) r.direction r.ethertype r.protocol r.low r.high
    r.remote_prefix r.remote_group direction key

unfoldable pub tables_allow : TableLists → Ident → Direction → Key → Bool
tables_allow t port direction key =
    list_any (λ (r : FilterRow). ident_eq port r.port && row_fits t direction key r) t.filters

abbrev pub tap_passage : TableLists → List Entry → TapRow → Direction → Packet → Passage
tap_passage t entries tap direction p =
    passage tap.secured (tables_allow t tap.port) entries tap.port direction (key_of p)

-- tap in
abbrev pub may_send_as : List Pair → MacAddress → Addr → Bool
may_send_as allowed mac from =
    list_any (λ (x : Pair). (x.mac == mac) && contains x.prefix from) allowed

abbrev pub tap_guards : TapRow → Frame → Bool
tap_guards tap (Ip src dst ends ttl part) = may_send_as tap.allowed src (source ends)
tap_guards tap (NeighbourAsk src ends) = may_send_as tap.allowed src (source ends)
tap_guards tap (Dhcp src from) =
    if from == 0 then (tap.mac == src) || list_any (λ (y : Pair). y.mac == src) tap.allowed
    else may_send_as tap.allowed src (V4 from)
tap_guards tap (Other s d y) = true

abbrev pub tap_filtered : Frame → TapRow → Passage → Stepped
tap_filtered frame tap y =
    if y.passes then record { step = Next (Bridge tap.tag frame); made = y.made }
    else plain (drops EgressFilter)

abbrev pub tap_sends : TableLists → List Entry → TapRow → Frame → Stepped
tap_sends t entries tap (Ip src dst ends ttl part) =
    let p = packet src dst ends ttl part in
    tap_filtered (ip_frame p) tap (tap_passage t entries tap Egress p)
tap_sends t entries tap (NeighbourAsk src ends) =
    plain (Next (Bridge tap.tag (NeighbourAsk src ends)))
tap_sends t entries tap (Dhcp src from) = plain (Next (Bridge tap.tag (Dhcp src from)))
tap_sends t entries tap (Other s d y) = plain (Next (Bridge tap.tag (Other s d y)))

abbrev pub tap_in : TableLists → List Entry → Frame → Option TapRow → Stepped
tap_in t entries frame None = plain (drops Dead)
tap_in t entries frame (Some tap) =
    if is_unsupported frame then plain (drops Unsupported)
    else if not (not tap.secured || tap_guards tap frame) then plain (drops Spoof)
    else tap_sends t entries tap frame

-- bridge: what leads on, what ends
abbrev pub wire_or : Bool → Ident → Option Wire → Toward → Frame → DropCause → Step
wire_or true n w toward frame cause = drops Unknown
wire_or false n None toward frame cause = drops cause
wire_or false n (Some w) toward frame cause = ToWire w n toward frame

abbrev pub to_tap : ℕ → Ident → Frame → Step
to_tap tag port (Ip src dst ends ttl part) = Next (TapOut port (Ip src dst ends ttl part))
to_tap tag port (Dhcp src from) = Next (DhcpIn tag (Dhcp src from))
to_tap tag port (NeighbourAsk src ends) = Next (DhcpIn tag (NeighbourAsk src ends))
to_tap tag port (Other s d y) = Next (DhcpIn tag (Other s d y))

abbrev pub routed_in : Ident → Ident → Frame → Step
routed_in router port (Ip src dst ends ttl part) =
    Next (RouterIn port router (Ip src dst ends ttl part))
routed_in router port (NeighbourAsk src ends) = drops Unknown
routed_in router port (Dhcp src from) = drops Unknown
routed_in router port (Other s d y) = drops Unknown

-- by the row's end; a frame that came by a tunnel or wire doesn't leave by one
abbrev pub target_step : Bool → ℕ → Frame → BridgeTo → Step
target_step inner tag frame (ToTap port) = to_tap tag port frame
target_step inner tag frame (ToRouter router port) = routed_in router port frame
target_step false tag frame (ToHost host number) = ToTunnel host number frame
target_step true tag frame (ToHost host number) = drops Unknown

abbrev pub bridged_by : Bool → TagRow → Toward → Frame → DropCause → Option BridgeRow → Step
bridged_by inner row toward frame cause (Some r) = target_step inner row.tag frame r.to
bridged_by inner row toward frame cause None =
    wire_or inner row.network row.wire toward frame cause

abbrev pub asked_at : Bool → TagRow → AddressAsk → Option NeighbourRow → Step
asked_at inner row a (Some r) = stops (Answered (ArpAnswer r.address r.mac))
asked_at inner row a None =
    wire_or inner row.network row.wire (TowardAddress (destination a.ends)) (ask_frame a) NoHolder

abbrev pub bridge_in : TableLists → Bool → TagRow → Frame → Step
bridge_in t inner row (Ip src dst ends ttl part) =
    bridged_by inner row (TowardMac dst) (Ip src dst ends ttl part) Unknown
    (bridge_at t row.tag (AtMac dst))
bridge_in t inner row (NeighbourAsk src ends) =
    asked_at inner row (address_ask src ends) (neighbour_at t row.tag (destination ends))
bridge_in t inner row (Dhcp src from) =
    bridged_by inner row TowardDhcp (Dhcp src from) NoLease (bridge_at t row.tag AtDhcp)
bridge_in t inner row (Other s d y) =
    wire_or inner row.network row.wire (TowardMac d) (Other s d y) Unknown

abbrev pub bridge_at_tag : TableLists → Bool → Frame → Option TagRow → Step
bridge_at_tag t inner frame None = drops Unknown
bridge_at_tag t inner frame (Some row) = bridge_in t inner row frame

abbrev pub bridge_step : TableLists → Bool → ℕ → Frame → Step
bridge_step t inner tag frame = bridge_at_tag t inner frame (tag_row t tag)

abbrev pub inward_step : TableLists → Frame → Option InwardRow → Step
inward_step t frame None = drops Unknown
inward_step t frame (Some r) = bridge_step t true r.tag frame

-- a router as the tables have it
abbrev pub leg_at : RouterPort → Leg
leg_at x = record { port = x.port; mac = x.mac; addresses = x.addresses; inside = x.inside }

abbrev pub way_at : RouteRow → Way
way_at x = record { prefix = x.prefix; rank = x.rank; next = x.next; port = x.port }

abbrev pub ways_at : Ident → List RouteRow → List Way
ways_at r rows =
    filter_map (λ (x : RouteRow). if ident_eq r x.router then Some (way_at x) else None) rows

abbrev pub floats_at_router : Ident → List FloatRow → List Float
floats_at_router r rows =
    filter_map (λ (x : FloatRow).
    if ident_eq r x.router
    then Some (record { floating = x.floating; fixed = x.fixed })
    else None) rows

abbrev pub table_view : TableLists → RouterTable → RouterView
table_view t r = record {
  id = r.router;
  up = r.up;
  snat = r.snat;
  gateway = r.gateway;
  legs = map leg_at r.ports;
  ways = ways_at r.router t.routes;
  floats = floats_at_router r.router t.floats;
}

abbrev pub router_at : TableLists → Ident → Option RouterTable
router_at t router = find (λ (r : RouterTable). ident_eq router r.router) t.routers

abbrev pub tagged_leg : RouterTable → Ident → Option RouterPort
tagged_leg r port = find (λ (x : RouterPort). ident_eq port x.port) r.ports

abbrev pub unheld : Addr → Packet → Option TagRow → Step
unheld hop p None = drops Unknown
unheld hop p (Some row) =
    elim row.wire [
      | None ↦ End (Dropped NoHolder) (Some row.network)
      | Some w ↦ End (Out row.network (TowardAddress hop) (ip_frame (record p { dst = 0 })))
          (Some row.network)
    ]

abbrev pub sent_by : TableLists → ℕ → Addr → Packet → Option NeighbourRow → Step
sent_by t tag hop p (Some r) = Next (Bridge tag (ip_frame (record p { dst = r.mac })))
sent_by t tag hop p None = unheld hop p (tag_row t tag)

abbrev pub sent_at : TableLists → Addr → Packet → Option RouterPort → Step
sent_at t hop p None = drops Unknown
sent_at t hop p (Some x) = sent_by t x.tag hop p (neighbour_at t x.tag hop)

abbrev pub table_routed : TableLists → RouterTable → Routed → Stepped
table_routed t r (RouteEnds o) = plain (stops o)
table_routed t r (RouteSends made out hop p) = record {
  step = sent_at t hop p (tagged_leg r out.port);
  made = made;
}

abbrev pub router_by_leg : TableLists → List Entry → RouterTable → Packet → Option RouterPort
    → Stepped
router_by_leg t entries r p None = plain (drops Unknown)
router_by_leg t entries r p (Some x) =
    table_routed t r (routing_of (table_view t r) entries (leg_at x) p)

abbrev pub router_by_row : TableLists → List Entry → Ident → Packet → Option RouterTable → Stepped
router_by_row t entries port p None = plain (drops Unknown)
router_by_row t entries port p (Some r) = router_by_leg t entries r p (tagged_leg r port)

abbrev pub router_in : TableLists → List Entry → Ident → Ident → Frame → Stepped
router_in t entries port router (Ip src dst ends ttl part) =
    router_by_row t entries port (packet src dst ends ttl part) (router_at t router)
router_in t entries port router (NeighbourAsk src ends) = plain (drops Unknown)
router_in t entries port router (Dhcp src from) = plain (drops Unknown)
router_in t entries port router (Other s d y) = plain (drops Unknown)

-- leases, taps
abbrev pub lease_answer : Option LeaseRow → Step
lease_answer None = drops NoLease
lease_answer (Some r) = stops (Answered (LeaseAnswer r.lease))

abbrev pub source_of : Frame → MacAddress
source_of (Ip src dst ends ttl part) = src
source_of (NeighbourAsk src ends) = src
source_of (Dhcp src from) = src
source_of (Other s d y) = s

abbrev pub lease_at : TableLists → ℕ → MacAddress → Option LeaseRow
lease_at t tag mac = find (λ (r : LeaseRow). (r.tag == tag) && (r.mac == mac)) t.leases

abbrev pub tap_delivers : Ident → Frame → Passage → Stepped
tap_delivers port frame y =
    if y.passes then record { step = stops (Delivered port frame); made = y.made }
    else plain (drops IngressFilter)

abbrev pub tap_out_by : TableLists → List Entry → Frame → TapRow → Stepped
tap_out_by t entries (Ip src dst ends ttl part) tap =
    let p = packet src dst ends ttl part in
    tap_delivers tap.port (ip_frame p) (tap_passage t entries tap Ingress p)
tap_out_by t entries (NeighbourAsk src ends) tap =
    plain (stops (Delivered tap.port (NeighbourAsk src ends)))
tap_out_by t entries (Dhcp src from) tap = plain (stops (Delivered tap.port (Dhcp src from)))
tap_out_by t entries (Other s d y) tap = plain (stops (Delivered tap.port (Other s d y)))

abbrev pub tap_out : TableLists → List Entry → Frame → Option TapRow → Stepped
tap_out t entries frame None = plain (drops Unknown)
tap_out t entries frame (Some tap) = tap_out_by t entries frame tap

-- the look-up of a place
abbrev pub table_step : TableLists → List Entry → Place → Stepped
table_step t entries (TapIn port frame) = tap_in t entries frame (tap_at t port)
table_step t entries (Bridge tag frame) = plain (bridge_step t false tag frame)
table_step t entries (TunnelIn number frame) =
    plain (inward_step t frame (inward_at t (ByTunnel number)))
table_step t entries (WireIn wire frame) = plain (inward_step t frame (inward_at t (ByWire wire)))
table_step t entries (RouterIn port router frame) = router_in t entries port router frame
table_step t entries (DhcpIn tag frame) = plain (lease_answer (lease_at t tag (source_of frame)))
table_step t entries (TapOut port frame) = tap_out t entries frame (tap_at t port)
