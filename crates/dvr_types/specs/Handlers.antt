-- Which hosts handle a frame, by what the rows say that it does: the sender's; for each router that
-- the packet isn't near to the router's; and the host of the port that gets it (Neutron's
-- administration guide, distributed virtual routing: traffic between self-service networks stays on
-- the compute nodes, translation is on the network node).
use Rattle.api_types.specs.Holders.{dhcp_port, holder, port_at, router_of}
use Rattle.api_types.specs.Ident.{Ident}
use Rattle.api_types.specs.Live.{is_here, joined_with}
use Rattle.api_types.specs.Owners.{is_router_port}
use Rattle.api_types.specs.RouterRows.{leg_of, legs_of, router_view}
use Rattle.api_types.specs.RowLists.{RowLists}
use Rattle.api_types.specs.RowsWith.{port_with}
use Rattle.api_types.specs.Table.{ident_eq}
use Rattle.api_types.specs.Wires.{network_on}
use Rattle.api_types.specs.declared.group.Direction.TheVariants.{Egress}
use Rattle.api_types.specs.declared.network.NetworkRow.{NetworkRow}
use Rattle.api_types.specs.declared.port.PortRow.{PortRow}
use Rattle.api_types.specs.declared.router.RouterRow.{RouterRow}
use Rattle.dvr_types.specs.Near.{is_near}
use Rattle.net_addr.specs.Words.{Text}
use Rattle.net_addr.specs.declared.address.Addr.{Addr}
use Rattle.plane_types.specs.Ends.{destination}
use Rattle.plane_types.specs.Guard.{passes_guard}
use Rattle.plane_types.specs.Meaning.{Trace, life_of, may_begin, on_path, rows_passage, with_fresh, with_path}
use Rattle.plane_types.specs.Packets.{Packet, is_unsupported, packet}
use Rattle.plane_types.specs.Passage.{Passage}
use Rattle.plane_types.specs.Routing.{RouteEnds, RouteSends, Routed, routing_of}
use Rattle.plane_types.specs.declared.entry.Entry.{Entry}
use Rattle.plane_types.specs.declared.event.Event.{Event}
use Rattle.plane_types.specs.declared.event.Event.TheVariants.{FromPort, FromWire}
use Rattle.plane_types.specs.declared.frame.Frame.{Frame}
use Rattle.plane_types.specs.declared.frame.Frame.TheVariants.{Dhcp, Ip, NeighbourAsk, Other}
use Rattle.std.specs.List.{list_any}
use Rattle.std.specs.Prelude.{Bool, List, None, Option, Some, [], find, if◌then◌else◌, not, option_map, option_to_list, suc, zero, ℕ, ◌&&◌, ◌++◌, ◌||◌, ◌∷◌}
use Rattle.std.specs.Str.{bytes_eq}

-- the port that gets a packet which a router sends on
pub record Arrival : Type 0 where
  pub port : PortRow
  pub packet : Packet
  pub trace : Trace

abbrev pub arrival_by : RowLists → RouterRow → Addr → Packet → Trace → Option PortRow
    → Option Arrival
arrival_by rows r hop p t None = None
arrival_by rows r hop p t (Some out) =
    option_map
    (λ (q : PortRow). record {
      port = q;
      packet = record p { dst = q.mac };
      trace = with_path t (r.id ∷ out.network ∷ []);
    })
    (joined_with rows out.host (holder rows out.network hop))

abbrev pub arrival : RowLists → RouterRow → Trace → Routed → Option Arrival
arrival rows r t (RouteEnds o) = None
arrival rows r t (RouteSends made out hop p) =
    arrival_by rows r hop p (with_fresh t made)
    (find (λ (x : PortRow). ident_eq out.port x.id) (legs_of rows r))

-- the hosts from a port on that gets a packet: a router's adds its router's host, unless the packet
-- is near, and another has it
abbrev pub Following : Type 0
Following = PortRow → Packet → Trace → List Text

abbrev pub hosts_after_router : Following → Option Arrival → List Text
hosts_after_router on None = []
hosts_after_router on (Some a) = on a.port a.packet a.trace

abbrev pub router_hosts : RowLists → List Entry → Following → PortRow → Packet → Trace
    → Option RouterRow → List Text
router_hosts rows entries on q p t None = []
router_hosts rows entries on q p t (Some r) =
    (if is_near rows (entries ++ t.fresh) r q p then [] else option_to_list r.host)
    ++ hosts_after_router on
    (arrival rows r t (routing_of (router_view rows r) (entries ++ t.fresh) (leg_of q) p))

unfoldable pub hosts_from : RowLists → List Entry → ℕ → Following
hosts_from rows entries zero q p t = []
hosts_from rows entries (suc many) q p t =
    if is_router_port q.owner
    then router_hosts rows entries (hosts_from rows entries many) q p t (router_of rows q)
    else q.host ∷ []

-- after the sender
abbrev pub host_of_port : Option PortRow → List Text
host_of_port None = []
host_of_port (Some q) = q.host ∷ []

abbrev pub hosts_to : Following → Packet → Trace → Option PortRow → List Text
hosts_to on p t None = []
hosts_to on p t (Some q) = on q p t

abbrev pub hosts_sent : RowLists → Following → PortRow → Packet → Trace → Passage → List Text
hosts_sent rows on s p t y =
    if y.passes
    then hosts_to on p (with_fresh t y.made)
    (joined_with rows s.host (port_at rows s.network p.dst))
    else []

abbrev pub hosts_after_sender : RowLists → List Entry → ℕ → PortRow → Trace → Frame → List Text
hosts_after_sender rows entries many s t (Ip src dst ends ttl part) =
    hosts_sent rows (hosts_from rows entries many) s (packet src dst ends ttl part) t
    (rows_passage rows (entries ++ t.fresh) s Egress (packet src dst ends ttl part))
hosts_after_sender rows entries many s t (Dhcp src from) =
    host_of_port (joined_with rows s.host (dhcp_port rows s.network))
hosts_after_sender rows entries many s t (NeighbourAsk src ends) = []
hosts_after_sender rows entries many s t (Other a d y) = []

abbrev pub hosts_of_live : RowLists → List Entry → ℕ → Frame → PortRow → List Text
hosts_of_live rows entries many frame s =
    if is_unsupported frame || not (passes_guard s frame) then []
    else hosts_after_sender rows entries many s
    (record { path = s.network ∷ []; fresh = [] }) frame

abbrev pub hosts_of_sender : RowLists → List Entry → ℕ → Frame → Option PortRow → List Text
hosts_of_sender rows entries many frame None = []
hosts_of_sender rows entries many frame (Some s) =
    if not (may_begin rows s) then [] else s.host ∷ hosts_of_live rows entries many frame s

-- from a wire; a question for an address is answered at the first of the hosts that has a live port
-- of the network
abbrev pub has_live_port : RowLists → Ident → Text → Bool
has_live_port rows n host =
    list_any (λ (p : PortRow). ident_eq n p.network && is_here rows host p) rows.ports

abbrev pub first_with_port : RowLists → List Text → Ident → Option PortRow → List Text
first_with_port rows hosts n None = []
first_with_port rows hosts n (Some q) = option_to_list (find (has_live_port rows n) hosts)

abbrev pub hosts_on_network : RowLists → List Entry → List Text → ℕ → NetworkRow → Frame
    → List Text
hosts_on_network rows entries hosts many n (Ip src dst ends ttl part) =
    hosts_to (hosts_from rows entries many) (packet src dst ends ttl part) (on_path n)
    (port_at rows n.id dst)
hosts_on_network rows entries hosts many n (NeighbourAsk src ends) =
    first_with_port rows hosts n.id (holder rows n.id (destination ends))
hosts_on_network rows entries hosts many n (Dhcp src from) = host_of_port (dhcp_port rows n.id)
hosts_on_network rows entries hosts many n (Other s d y) = []

abbrev pub hosts_of_wire : RowLists → List Entry → List Text → ℕ → Frame → Option NetworkRow
    → List Text
hosts_of_wire rows entries hosts many frame None = []
hosts_of_wire rows entries hosts many frame (Some n) =
    if is_unsupported frame then [] else hosts_on_network rows entries hosts many n frame

abbrev pub hosts_passed : RowLists → List Entry → List Text → Event → List Text
hosts_passed rows entries hosts (FromPort port frame) =
    hosts_of_sender rows entries (life_of frame) frame (port_with rows port)
hosts_passed rows entries hosts (FromWire physical tag frame) =
    hosts_of_wire rows entries hosts (life_of frame) frame
    (network_on rows (record { physical = physical; tag = tag }))

-- a host that would stand twice in a row stands once: the hosts that come after one
abbrev pub after_host : Text → List Text → List Text
after_host last [] = []
after_host last (x ∷ xs) =
    if bytes_eq last x then after_host last xs else x ∷ after_host x xs

abbrev pub once_in_a_row : List Text → List Text
once_in_a_row [] = []
once_in_a_row (x ∷ xs) = x ∷ after_host x xs

-- the hosts that handle an event; `hosts` are the names of all hosts in their order
unfoldable pub handlers : RowLists → List Entry → List Text → Event → List Text
handlers rows entries hosts event = once_in_a_row (hosts_passed rows entries hosts event)
