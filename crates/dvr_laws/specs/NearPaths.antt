-- Frames that are near at each router on their way.
use Rattle.api_types.specs.Holders.{port_at, router_of}
use Rattle.api_types.specs.Live.{joined_with}
use Rattle.api_types.specs.Owners.{is_router_port}
use Rattle.api_types.specs.RouterRows.{leg_of, router_view}
use Rattle.api_types.specs.RowLists.{RowLists}
use Rattle.api_types.specs.declared.group.Direction.TheVariants.{Egress}
use Rattle.api_types.specs.declared.port.PortRow.{PortRow}
use Rattle.api_types.specs.declared.router.RouterRow.{RouterRow}
use Rattle.dvr_types.specs.Handlers.{Arrival, arrival}
use Rattle.dvr_types.specs.Near.{is_near}
use Rattle.plane_types.specs.Meaning.{Trace, life_of, rows_passage, with_fresh}
use Rattle.plane_types.specs.Packets.{Packet, packet}
use Rattle.plane_types.specs.Passage.{Passage}
use Rattle.plane_types.specs.Routing.{routing_of}
use Rattle.plane_types.specs.declared.entry.Entry.{Entry}
use Rattle.plane_types.specs.declared.frame.Frame.{Frame}
use Rattle.plane_types.specs.declared.frame.Frame.TheVariants.{Dhcp, Ip, NeighbourAsk, Other}
use Rattle.std.specs.Prelude.{Bool, List, None, Option, Some, [], if◌then◌else◌, option_map, suc, true, zero, ℕ, ◌&&◌, ◌++◌, ◌∷◌}

-- the port of the sender's network that gets its packet, if the packet passes the sender's filter
abbrev pub begun_by : PortRow → Trace
begun_by s = record { path = s.network ∷ []; fresh = [] }

abbrev pub arrival_sent : PortRow → Packet → Passage → Option PortRow → Option Arrival
arrival_sent s p y o =
    if y.passes
    then option_map
    (λ (q : PortRow). record { port = q; packet = p; trace = with_fresh (begun_by s) y.made }) o
    else None

abbrev pub first_arrival : RowLists → List Entry → PortRow → Frame → Option Arrival
first_arrival rows entries s (Ip src dst ends ttl part) =
    arrival_sent s (packet src dst ends ttl part)
    (rows_passage rows (entries ++ (begun_by s).fresh) s Egress (packet src dst ends ttl part))
    (joined_with rows s.host (port_at rows s.network dst))
first_arrival rows entries s (NeighbourAsk src ends) = None
first_arrival rows entries s (Dhcp src from) = None
first_arrival rows entries s (Other src dst kind) = None

-- whether a packet that a port gets is near at this router, and at all later ones
abbrev pub Tested : Type 0
Tested = PortRow → Packet → Trace → Bool

abbrev pub near_after : Tested → Option Arrival → Bool
near_after on None = true
near_after on (Some a) = on a.port a.packet a.trace

abbrev pub router_near : RowLists → List Entry → Tested → PortRow → Packet → Trace
    → Option RouterRow → Bool
router_near rows entries on q p t None = true
router_near rows entries on q p t (Some r) =
    is_near rows (entries ++ t.fresh) r q p
    && near_after on
    (arrival rows r t (routing_of (router_view rows r) (entries ++ t.fresh) (leg_of q) p))

unfoldable pub all_near : RowLists → List Entry → ℕ → Tested
all_near rows entries zero q p t = true
all_near rows entries (suc many) q p t =
    if is_router_port q.owner
    then router_near rows entries (all_near rows entries many) q p t (router_of rows q)
    else true

-- whether a frame of a port is near at each router on its way
abbrev pub is_near_all_way : RowLists → List Entry → PortRow → Frame → Bool
is_near_all_way rows entries s frame =
    near_after (all_near rows entries (life_of frame)) (first_arrival rows entries s frame)
