-- A router as the rows have it: its live ports, its routes and its floating addresses.
use Rattle.std.specs.Prelude.{ℕ, Bool, false, ◌&&◌, nat_lt, List, [], ◌∷◌, ◌++◌, map, Option, Some, None, find, option_map, option_and_then, flat_map, if◌then◌else◌}
use Rattle.std.specs.List.{list_any, filter, filter_map}
use Rattle.std.specs.Option.{option_or}
use Rattle.net_addr.specs.Addresses.{with_number}
use Rattle.net_addr.specs.Ordered.{addr_before, four}
use Rattle.net_addr.specs.declared.address.Addr.{Addr}
use Rattle.net_addr.specs.Prefixes.{Prefix, contains}
use Rattle.api_types.specs.Ident.{Ident}
use Rattle.api_types.specs.Owners.{holds_in, is_interface, is_port_of}
use Rattle.api_types.specs.RowLists.{RowLists}
use Rattle.api_types.specs.RowsWith.{subnet_with}
use Rattle.api_types.specs.Table.{ident_eq}
use Rattle.api_types.specs.declared.floating.FloatingRow.{FloatingRow}
use Rattle.api_types.specs.declared.floating.Target.{Target}
use Rattle.api_types.specs.declared.port.Fixed.{Fixed}
use Rattle.api_types.specs.declared.port.PortRow.{PortRow}
use Rattle.api_types.specs.declared.router.Gateway.{Gateway}
use Rattle.api_types.specs.declared.router.RouterRow.{RouterRow}
use Rattle.api_types.specs.declared.subnet.Hop.{Hop}
use Rattle.api_types.specs.declared.subnet.SubnetRow.{SubnetRow}
use Rattle.api_types.specs.Ascending.{ascending}
use Rattle.api_types.specs.Holders.{gateway_port}
use Rattle.api_types.specs.Live.{is_live}
use Rattle.api_types.specs.RouterViews.{Float, Leg, RouterView, Way}
use Rattle.api_types.specs.declared.route.RouteRank.{RouteRank}
use Rattle.api_types.specs.declared.route.RouteRank.TheVariants.{Connected, Default, Extra}

abbrev pub is_leg_of : RowLists → RouterRow → PortRow → Bool
is_leg_of rows r p = is_port_of r p && is_live rows p

unfoldable pub legs_of : RowLists → RouterRow → List PortRow
legs_of rows r = filter (is_leg_of rows r) rows.ports

abbrev pub leg_of : PortRow → Leg
leg_of p = record {
  port = p.id;
  mac = p.mac;
  addresses = map (λ (f : Fixed). f.address) p.fixed;
  inside = is_interface p.owner;
}

-- a route that leaves by the port of a subnet, the first of these
abbrev pub way_by : List PortRow → Ident → Prefix → RouteRank → Option Addr → Option Way
way_by legs subnet prefix rank next =
    option_map (λ (p : PortRow). record { prefix = prefix; rank = rank; next = next; port = p.id })
    (find (holds_in subnet) legs)

-- connected: the subnet of each address of each of these ports, by ascending addresses of a port
abbrev pub by_address : Fixed → Fixed → Bool
by_address f g = addr_before f.address g.address

abbrev pub connected_by : List PortRow → Option SubnetRow → Option Way
connected_by legs None = None
connected_by legs (Some s) = way_by legs s.id s.prefix Connected None

unfoldable pub connected_ways : RowLists → List PortRow → List Way
connected_ways rows legs =
    flat_map (λ (p : PortRow).
    filter_map (λ (f : Fixed). connected_by legs (subnet_with rows f.subnet))
    (ascending by_address p.fixed)) legs

-- extra: each route whose next hop lies in the subnet of an address of one of these ports
abbrev pub holds_next : RowLists → Addr → Fixed → Bool
holds_next rows x f =
    list_any (λ (s : SubnetRow). ident_eq f.subnet s.id && contains s.prefix x) rows.subnets

abbrev pub extra_way : RowLists → List PortRow → Hop → Option Way
extra_way rows legs h =
    option_and_then (λ (f : Fixed). way_by legs f.subnet h.destination Extra (Some h.next))
    (find (holds_next rows h.next) (flat_map (λ (p : PortRow). p.fixed) legs))

unfoldable pub extra_ways : RowLists → List PortRow → List Hop → List Way
extra_ways rows legs hops = filter_map (extra_way rows legs) hops

-- default: for each address of the gateway port, where that is live and the address's subnet has a
-- gateway, 0.0.0.0/0 or ::/0 by that gateway; by ascending addresses
abbrev pub default_by : List PortRow → Option SubnetRow → List Way
default_by legs None = []
default_by legs (Some s) =
    filter_map (λ (g : Addr).
    way_by legs s.id (record { base = with_number g 0; len = 0 }) Default (Some g))
    (elim s.gateway [ None ↦ [] | Some g ↦ g ∷ [] ])

abbrev pub default_of : RowLists → List PortRow → Option PortRow → List Way
default_of rows legs None = []
default_of rows legs (Some p) =
    if is_live rows p
    then flat_map (λ (f : Fixed). default_by legs (subnet_with rows f.subnet))
    (ascending by_address p.fixed)
    else []

unfoldable pub ways_of : RowLists → RouterRow → List Way
ways_of rows r =
    connected_ways rows (legs_of rows r) ++ extra_ways rows (legs_of rows r) r.routes
    ++ default_of rows (legs_of rows r) (gateway_port rows r)

-- the associated floating addresses that name this router
abbrev pub float_by : Ident → FloatingRow → Option Target → Option Float
float_by r f None = None
float_by r f (Some t) =
    if ident_eq r t.router then Some (record { floating = f.address; fixed = t.fixed }) else None

unfoldable pub floats_of : RowLists → RouterRow → List Float
floats_of rows r = filter_map (λ (f : FloatingRow). float_by r.id f f.target) rows.floatings

-- the first address of version 4
abbrev pub first_four : List Fixed → Option ℕ
first_four [] = None
first_four (f ∷ fs) = option_or (four f.address) (first_four fs)

-- that of the gateway port, live or not; a gateway port may have none
abbrev pub gateway_address : RowLists → RouterRow → Option ℕ
gateway_address rows r =
    option_and_then (λ (p : PortRow). first_four p.fixed) (gateway_port rows r)

abbrev pub has_snat : Option Gateway → Bool
has_snat None = false
has_snat (Some g) = g.snat

unfoldable pub router_view : RowLists → RouterRow → RouterView
router_view rows r = record {
  id = r.id;
  up = r.up;
  snat = has_snat r.gateway;
  gateway = gateway_address rows r;
  legs = map leg_of (legs_of rows r);
  ways = ways_of rows r;
  floats = floats_of rows r;
}
