-- What forbids calls on a router by its rows alone, whoever asks: the first rule of its attributes
-- that is broken, or the first use, with the row that uses it. Of a router, or another named row,
-- that isn't there nothing is said but that it has no such interface.
use Rattle.api_policy.specs.Uses.{leads_by, leads_through, named_by_device}
use Rattle.api_types.specs.Ident.{Ident}
use Rattle.api_types.specs.Lists.{is_empty, is_some_so}
use Rattle.api_types.specs.Owners.{holds_in, is_service}
use Rattle.api_types.specs.RouterWays.{interfaces_of, is_bad_hop, is_lost_hop, other_ports, router_ports}
use Rattle.api_types.specs.RowLists.{RowLists}
use Rattle.api_types.specs.Sharing.{is_external_to}
use Rattle.api_types.specs.Table.{ident_eq, row_of}
use Rattle.api_types.specs.declared.call.InterfaceBy.TheVariants.{Port as ByPort, Subnet as BySubnet}
use Rattle.api_types.specs.declared.call.InterfaceBy.{InterfaceBy}
use Rattle.api_types.specs.declared.floating.FloatingRow.{FloatingRow}
use Rattle.api_types.specs.declared.kind.Kind.{Kind}
use Rattle.api_types.specs.declared.kind.Kind.TheVariants.{Floating as FloatingKind, Router as RouterKind}
use Rattle.api_types.specs.declared.network.NetworkRow.{NetworkRow}
use Rattle.api_types.specs.declared.port.PortRow.{PortRow}
use Rattle.api_types.specs.declared.router.Gateway.{Gateway}
use Rattle.api_types.specs.declared.router.RouterRow.{RouterRow}
use Rattle.api_types.specs.declared.subnet.Hop.{Hop}
use Rattle.api_types.specs.declared.subnet.SubnetRow.{SubnetRow}
use Rattle.api_router.specs.RouterRules.{is_bad_leg, overlaps_interface, overlaps_leg}
use Rattle.api_router.specs.declared.checks.RouterRefusal.TheVariants.{BadGateway, BadPort, BadRoutes, BadSubnet, FloatingInUse, GatewayInUse, NoInterface, PortInUse, RouteInUse}
use Rattle.api_router.specs.declared.checks.RouterRefusal.{RouterRefusal}
use Rattle.std.specs.List.{list_any}
use Rattle.std.specs.Option.{option_or}
use Rattle.std.specs.Prelude.{Bool, Err, List, None, Ok, Option, Result, Some, find, if◌then◌else◌, is_none, not, option_and_then, option_map, ◌||◌, ◌≡◌}

abbrev pub told_if : Bool → RouterRefusal → Option RouterRefusal
told_if holds refusal = if holds then Some refusal else None

-- a check passes where nothing is told, and otherwise answers it
abbrev pub IsTold : Option RouterRefusal → Result (Unit {0}) RouterRefusal → Type 0
IsTold refusal (Ok passed) = refusal ≡ None
IsTold refusal (Err e) = refusal ≡ Some e

-- what is told of the router with an id
abbrev pub told_of : RowLists → Ident → (RouterRow → Option RouterRefusal) → Option RouterRefusal
told_of rows router told = option_and_then told (row_of (λ r. r.id) router rows.routers)

-- a new interface: by a subnet with a gateway that overlaps none of the router's ports, or by a
-- port of one address, without a device
abbrev pub bad_subnet : RowLists → RouterRow → SubnetRow → Option RouterRefusal
bad_subnet rows r s = told_if (is_none s.gateway || overlaps_leg rows r s) BadSubnet

abbrev pub device_user : RowLists → PortRow → Option (Kind × Ident)
device_user rows p = if is_service p.owner then named_by_device rows p.device else None

abbrev pub bad_port : RowLists → RouterRow → PortRow → Option RouterRefusal
bad_port rows r p =
    option_or (told_if (is_bad_leg rows r p) BadPort)
    (told_if (is_service p.owner || not (is_empty p.device)) (PortInUse (device_user rows p)))

abbrev pub bad_interface : RowLists → InterfaceBy → RouterRow → Option RouterRefusal
bad_interface rows (BySubnet i) r =
    option_and_then (bad_subnet rows r) (row_of (λ s. s.id) i rows.subnets)
bad_interface rows (ByPort i) r =
    option_and_then (bad_port rows r) (row_of (λ p. p.id) i rows.ports)

abbrev pub interface_told : RowLists → Ident → InterfaceBy → Option RouterRefusal
interface_told rows router by = told_of rows router (bad_interface rows by)

-- a port of the router that goes: the router uses it where it leaves a next hop unreached, by
-- these routes
abbrev pub route_user : RowLists → RouterRow → List Hop → PortRow → Option RouterRefusal
route_user rows r routes p =
    told_if
    (list_any (is_lost_hop rows.subnets (other_ports p.id (router_ports rows.ports r)) p) routes)
    (RouteInUse (Some (RouterKind, r.id)))

abbrev pub through_user : RowLists → RouterRow → PortRow → Option RouterRefusal
through_user rows r p =
    option_map (λ (f : FloatingRow). FloatingInUse (Some (FloatingKind, f.id)))
    (find (leads_through rows.subnets r.id p) rows.floatings)

-- the interface that a body names, and what uses it
abbrev pub interface_named : RowLists → InterfaceBy → RouterRow → Option PortRow
interface_named rows (BySubnet i) r = find (holds_in i) (interfaces_of rows.ports r)
interface_named rows (ByPort i) r = row_of (λ p. p.id) i (interfaces_of rows.ports r)

abbrev pub port_or : Ident → Option RouterRefusal → Result Ident RouterRefusal
port_or port None = Ok port
port_or port (Some refusal) = Err refusal

abbrev pub removed_port : RowLists → RouterRow → Option PortRow → Result Ident RouterRefusal
removed_port rows r None = Err NoInterface
removed_port rows r (Some p) =
    port_or p.id (option_or (route_user rows r r.routes p) (through_user rows r p))

abbrev pub removal_of : RowLists → InterfaceBy → Option RouterRow → Result Ident RouterRefusal
removal_of rows by None = Err NoInterface
removal_of rows by (Some r) = removed_port rows r (interface_named rows by r)

abbrev pub removal_told : RowLists → Ident → InterfaceBy → Result Ident RouterRefusal
removal_told rows router by = removal_of rows by (row_of (λ r. r.id) router rows.routers)

-- a gateway on a network, or none, and the uses of the old one, which goes where the network is
-- another one
abbrev pub is_bad_gateway : RowLists → RouterRow → NetworkRow → Bool
is_bad_gateway rows r n =
    not (is_external_to rows.policies n.id r.project)
    || overlaps_interface rows (interfaces_of rows.ports r) n

abbrev pub bad_gateway_on : RowLists → RouterRow → Option Ident → Option RouterRefusal
bad_gateway_on rows r None = None
bad_gateway_on rows r (Some i) =
    option_and_then (λ n. told_if (is_bad_gateway rows r n) BadGateway)
    (row_of (λ n. n.id) i rows.networks)

abbrev pub gateway_user : RowLists → RouterRow → Option RouterRefusal
gateway_user rows r =
    option_map (λ (f : FloatingRow). GatewayInUse (Some (FloatingKind, f.id)))
    (find (leads_by r.id) rows.floatings)

abbrev pub lost_use : RowLists → RouterRow → List Hop → Option Ident → Gateway
    → Option RouterRefusal
lost_use rows r routes network g =
    if is_some_so (ident_eq g.network) network then None
    else option_or
    (option_and_then (route_user rows r routes) (row_of (λ p. p.id) g.port rows.ports))
    (gateway_user rows r)

abbrev pub bad_gateway : RowLists → Option Ident → List Hop → RouterRow → Option RouterRefusal
bad_gateway rows network routes r =
    option_or (bad_gateway_on rows r network)
    (option_and_then (lost_use rows r routes network) r.gateway)

abbrev pub gateway_told : RowLists → Ident → Option Ident → List Hop → Option RouterRefusal
gateway_told rows router network routes = told_of rows router (bad_gateway rows network routes)

-- routes: each next hop is reached by the ports that the router has
abbrev pub routes_told : RowLists → Ident → List Hop → Option RouterRefusal
routes_told rows router routes =
    told_of rows router (λ r.
    told_if (list_any (is_bad_hop rows.subnets (router_ports rows.ports r)) routes) BadRoutes)
