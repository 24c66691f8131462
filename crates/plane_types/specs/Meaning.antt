-- What a frame does, by the rows of the API alone: one function by cases, in which each find is a
-- search over all rows. A host is asked only as an attribute of a port, to tell which ports of a
-- local network hear each other.
use Rattle.std.specs.Prelude.{ℕ, zero, suc, Bool, not, ◌&&◌, List, [], ◌∷◌, ◌++◌, Option, Some, None, find, option_and_then, if◌then◌else◌}
use Rattle.net_addr.specs.Words.{Text}
use Rattle.net_addr.specs.declared.address.Addr.{Addr}
use Rattle.api_types.specs.Ident.{Ident}
use Rattle.api_types.specs.RowsWith.{port_with}
use Rattle.api_types.specs.Owners.{is_router_port}
use Rattle.api_types.specs.RowLists.{RowLists}
use Rattle.api_types.specs.Table.{ident_eq}
use Rattle.api_types.specs.declared.group.Direction.{Direction}
use Rattle.api_types.specs.declared.group.Direction.TheVariants.{Egress, Ingress}
use Rattle.api_types.specs.declared.network.NetworkRow.{NetworkRow}
use Rattle.api_types.specs.declared.port.PortRow.{PortRow}
use Rattle.api_types.specs.declared.router.RouterRow.{RouterRow}
use Rattle.plane_types.specs.Ends.{destination}
use Rattle.plane_types.specs.Filter.{rules_allow}
use Rattle.plane_types.specs.Guard.{passes_guard}
use Rattle.api_types.specs.Holders.{dhcp_port, holder, port_at, router_of}
use Rattle.api_types.specs.Live.{is_live, joined_with, segment}
use Rattle.api_types.specs.Wires.{wire_of, network_on}
use Rattle.plane_types.specs.Packets.{AddressAsk, LeaseAsk, Packet, address_ask, ask_frame, dhcp_frame, ip_frame, is_unsupported, key_of, lease_ask, packet}
use Rattle.plane_types.specs.Passage.{Passage, passage}
use Rattle.api_types.specs.RouterRows.{leg_of, legs_of, router_view}
use Rattle.plane_types.specs.Routing.{RouteEnds, RouteSends, Routed, routing_of}
use Rattle.plane_types.specs.declared.entry.Entry.{Entry}
use Rattle.plane_types.specs.declared.event.Event.{Event}
use Rattle.plane_types.specs.declared.event.Event.TheVariants.{FromPort, FromWire}
use Rattle.plane_types.specs.declared.frame.Frame.{Frame}
use Rattle.plane_types.specs.declared.frame.Frame.TheVariants.{Dhcp, Ip, NeighbourAsk, Other}
use Rattle.api_types.specs.declared.wire.Wire.{Wire}
use Rattle.plane_types.specs.declared.verdict.AskAnswer.TheVariants.{Arp as ArpAnswer, Lease as LeaseAnswer}
use Rattle.plane_types.specs.declared.verdict.DropCause.{DropCause}
use Rattle.plane_types.specs.declared.verdict.DropCause.TheVariants.{Dead, Egress as EgressFilter, Ingress as IngressFilter, NoHolder, NoLease, Spoof, Unknown, Unsupported}
use Rattle.api_types.specs.declared.lease.Lease.{Lease}
use Rattle.plane_types.specs.declared.verdict.Outcome.{Outcome}
use Rattle.plane_types.specs.declared.verdict.Outcome.TheVariants.{Answered, Delivered, Dropped, Out}
use Rattle.plane_types.specs.declared.verdict.Toward.{Toward}
use Rattle.plane_types.specs.declared.verdict.Toward.TheVariants.{Address as TowardAddress, Dhcp as TowardDhcp, Mac as TowardMac}
use Rattle.api_types.specs.Leases.{lease_for}

-- what an event has come to so far
pub record Trace : Type 0 where
  pub path : List Ident
  pub fresh : List Entry

-- what an event comes to: its outcome, the networks and routers that it passed, the entries that
-- it made
pub record Fate : Type 0 where
  pub outcome : Outcome
  pub path : List Ident
  pub fresh : List Entry

abbrev pub end_fate : Trace → Outcome → Fate
end_fate t o = record { outcome = o; path = t.path; fresh = t.fresh }

abbrev pub drop_fate : Trace → DropCause → Fate
drop_fate t c = end_fate t (Dropped c)

abbrev pub with_fresh : Trace → List Entry → Trace
with_fresh t made = record { path = t.path; fresh = t.fresh ++ made }

abbrev pub with_path : Trace → List Ident → Trace
with_path t ids = record { path = t.path ++ ids; fresh = t.fresh }

-- out on flat and vlan, otherwise dropped
abbrev pub out_or : Option Wire → Ident → Toward → Frame → DropCause → Outcome
out_or None n toward frame cause = Dropped cause
out_or (Some w) n toward frame cause = Out n toward frame

abbrev pub out_of : RowLists → Ident → Toward → Frame → DropCause → Outcome
out_of rows n toward frame cause = out_or (wire_of (segment rows n)) n toward frame cause

-- a packet on the way to a port
abbrev pub Onward : Type 0
Onward = PortRow → Packet → Trace → Fate

abbrev pub rows_passage : RowLists → List Entry → PortRow → Direction → Packet → Passage
rows_passage rows entries q direction p =
    passage q.secured (rules_allow rows q) entries q.id direction (key_of p)

-- an instance's or DHCP port filters the packet, and then has it
abbrev pub delivered_by : PortRow → Packet → Trace → Passage → Fate
delivered_by q p t x =
    if x.passes then end_fate (with_fresh t x.made) (Delivered q.id (ip_frame p))
    else drop_fate t IngressFilter

abbrev pub at_receiver : RowLists → List Entry → PortRow → Packet → Trace → Fate
at_receiver rows entries q p t =
    delivered_by q p t (rows_passage rows (entries ++ t.fresh) q Ingress p)

-- a router's port hands it to the router; router and network of the way out are added to the path,
-- and the joined holder of the next hop gets the packet
abbrev pub handed_to : RowLists → Onward → Ident → Addr → Packet → Trace → Option PortRow → Fate
handed_to rows on n hop p t (Some q) = on q (record p { dst = q.mac }) t
handed_to rows on n hop p t None =
    end_fate t (out_of rows n (TowardAddress hop) (ip_frame (record p { dst = 0 })) NoHolder)

abbrev pub handed_out : RowLists → Onward → RouterRow → Addr → Packet → Trace → Option PortRow
    → Fate
handed_out rows on r hop p t None = drop_fate t Unknown
handed_out rows on r hop p t (Some out) =
    handed_to rows on out.network hop p (with_path t (r.id ∷ out.network ∷ []))
    (joined_with rows out.host (holder rows out.network hop))

abbrev pub after_router : RowLists → Onward → RouterRow → Trace → Routed → Fate
after_router rows on r t (RouteEnds o) = end_fate t o
after_router rows on r t (RouteSends made out hop p) =
    handed_out rows on r hop p (with_fresh t made)
    (find (λ (x : PortRow). ident_eq out.port x.id) (legs_of rows r))

abbrev pub at_router : RowLists → List Entry → Onward → PortRow → Packet → Trace → Option RouterRow
    → Fate
at_router rows entries on q p t None = drop_fate t Unknown
at_router rows entries on q p t (Some r) =
    after_router rows on r t (routing_of (router_view rows r) (entries ++ t.fresh) (leg_of q) p)

abbrev pub fate_at_port : RowLists → List Entry → Onward → PortRow → Packet → Trace → Fate
fate_at_port rows entries on q p t =
    if is_router_port q.owner then at_router rows entries on q p t (router_of rows q)
    else at_receiver rows entries q p t

-- a port gets a packet, which may pass that many routers
unfoldable pub port_fate : RowLists → List Entry → ℕ → PortRow → Packet → Trace → Fate
port_fate rows entries zero q p t = drop_fate t Unknown
port_fate rows entries (suc many) q p t =
    fate_at_port rows entries (port_fate rows entries many) q p t

-- on a network, from a port of a host
abbrev pub sent_to : RowLists → Onward → Ident → Packet → Trace → Option PortRow → Fate
sent_to rows on n p t (Some q) = on q p t
sent_to rows on n p t None = end_fate t (out_of rows n (TowardMac p.dst) (ip_frame p) Unknown)

abbrev pub sent_on : RowLists → Onward → Ident → Text → Packet → Trace → Fate
sent_on rows on n host p t = sent_to rows on n p t (joined_with rows host (port_at rows n p.dst))

-- an ask for an address (RFC 826; RFC 4861) is answered by its holder, where that is joined with
-- the asker
abbrev pub asked_by : RowLists → Ident → AddressAsk → Option PortRow → Outcome
asked_by rows n a (Some q) = Answered (ArpAnswer (destination a.ends) q.mac)
asked_by rows n a None = out_of rows n (TowardAddress (destination a.ends)) (ask_frame a) NoHolder

abbrev pub address_outcome : RowLists → Ident → Text → AddressAsk → Outcome
address_outcome rows n host a =
    asked_by rows n a (joined_with rows host (holder rows n (destination a.ends)))

abbrev pub lease_outcome : Option Lease → Outcome
lease_outcome None = Dropped NoLease
lease_outcome (Some l) = Answered (LeaseAnswer l)

abbrev pub dhcp_outcome : RowLists → Ident → LeaseAsk → PortRow → Outcome
dhcp_outcome rows n a d = lease_outcome (option_and_then (lease_for rows d) (port_at rows n a.src))

abbrev pub lease_asked_by : RowLists → Ident → LeaseAsk → Option PortRow → Outcome
lease_asked_by rows n a (Some d) = dhcp_outcome rows n a d
lease_asked_by rows n a None = out_of rows n TowardDhcp (dhcp_frame a) NoLease

abbrev pub lease_asked : RowLists → Ident → Text → LeaseAsk → Outcome
lease_asked rows n host a = lease_asked_by rows n a (joined_with rows host (dhcp_port rows n))

-- from a port
abbrev pub sent_out : RowLists → Onward → PortRow → Packet → Trace → Passage → Fate
sent_out rows on p x t y =
    if y.passes then sent_on rows on p.network p.host x (with_fresh t y.made)
    else drop_fate t EgressFilter

abbrev pub from_sender : RowLists → List Entry → ℕ → PortRow → Trace → Frame → Fate
from_sender rows entries many p t (Ip src dst ends ttl part) =
    let x = packet src dst ends ttl part in
    sent_out rows (port_fate rows entries many) p x t
    (rows_passage rows (entries ++ t.fresh) p Egress x)
from_sender rows entries many p t (NeighbourAsk src ends) =
    end_fate t (address_outcome rows p.network p.host (address_ask src ends))
from_sender rows entries many p t (Dhcp src from) =
    end_fate t (lease_asked rows p.network p.host (lease_ask src from))
from_sender rows entries many p t (Other s d y) = drop_fate t Unsupported

abbrev pub from_live : RowLists → List Entry → ℕ → PortRow → Trace → Frame → Fate
from_live rows entries many p t frame =
    if is_unsupported frame then drop_fate t Unsupported
    else if not (passes_guard p frame) then drop_fate t Spoof
    else from_sender rows entries many p t frame

abbrev pub none_so_far : Trace
none_so_far = record { path = []; fresh = [] }

-- the sender is there, is live, and is no router's port; a floating address's port is never live
abbrev pub may_begin : RowLists → PortRow → Bool
may_begin rows p = is_live rows p && not (is_router_port p.owner)

abbrev pub from_port : RowLists → List Entry → ℕ → Frame → Option PortRow → Fate
from_port rows entries many frame None = drop_fate none_so_far Dead
from_port rows entries many frame (Some p) =
    if may_begin rows p
    then from_live rows entries many p (record { path = p.network ∷ []; fresh = [] }) frame
    else drop_fate none_so_far Dead

-- from a wire
abbrev pub on_path : NetworkRow → Trace
on_path n = record { path = n.id ∷ []; fresh = [] }

abbrev pub wire_packet : RowLists → List Entry → ℕ → NetworkRow → Packet → Option PortRow → Fate
wire_packet rows entries many n x None = drop_fate none_so_far Unknown
wire_packet rows entries many n x (Some q) = port_fate rows entries many q x (on_path n)

abbrev pub wire_ask : NetworkRow → AddressAsk → Option PortRow → Fate
wire_ask n a None = drop_fate none_so_far Unknown
wire_ask n a (Some q) = end_fate (on_path n) (Answered (ArpAnswer (destination a.ends) q.mac))

abbrev pub wire_lease : RowLists → NetworkRow → LeaseAsk → Option PortRow → Fate
wire_lease rows n a None = drop_fate none_so_far Unknown
wire_lease rows n a (Some d) = end_fate (on_path n) (dhcp_outcome rows n.id a d)

abbrev pub from_network : RowLists → List Entry → ℕ → NetworkRow → Frame → Fate
from_network rows entries many n (Ip src dst ends ttl part) =
    wire_packet rows entries many n (packet src dst ends ttl part) (port_at rows n.id dst)
from_network rows entries many n (NeighbourAsk src ends) =
    wire_ask n (address_ask src ends) (holder rows n.id (destination ends))
from_network rows entries many n (Dhcp src from) =
    wire_lease rows n (lease_ask src from) (dhcp_port rows n.id)
from_network rows entries many n (Other s d y) = drop_fate none_so_far Unsupported

abbrev pub from_wire : RowLists → List Entry → ℕ → Frame → Option NetworkRow → Fate
from_wire rows entries many frame None = drop_fate none_so_far Unknown
from_wire rows entries many frame (Some n) = from_network rows entries many n frame

-- a packet passes at most as many routers as its time to live says
abbrev pub life_of : Frame → ℕ
life_of (Ip src dst ends ttl part) = suc ttl
life_of (NeighbourAsk src ends) = zero
life_of (Dhcp src from) = zero
life_of (Other s d y) = zero

unfoldable pub rows_fate : RowLists → List Entry → Event → Fate
rows_fate rows entries (FromPort port frame) =
    from_port rows entries (life_of frame) frame (port_with rows port)
rows_fate rows entries (FromWire physical tag frame) =
    if is_unsupported frame then drop_fate none_so_far Unsupported
    else from_wire rows entries (life_of frame) frame
    (network_on rows (record { physical = physical; tag = tag }))

-- events one after the other: each sees the entries that the earlier ones made
unfoldable pub rows_fates : RowLists → List Entry → List Event → List Fate
rows_fates rows entries [] = []
rows_fates rows entries (e ∷ events) =
    rows_fate rows entries e ∷ rows_fates rows (entries ++ (rows_fate rows entries e).fresh) events
