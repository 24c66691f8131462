-- The tables that the rows give to a host, for its tags.
use Rattle.std.specs.Prelude.{ℕ, Bool, false, not, ◌&&◌, List, [], ◌++◌, map, Option, Some, None, find, option_map, option_and_then, flat_map, if◌then◌else◌}
use Rattle.std.specs.List.{list_any, filter_map}
use Rattle.std.specs.Str.{bytes_eq}
use Rattle.net_addr.specs.Words.{Text}
use Rattle.net_addr.specs.Ordered.{whole_prefix}
use Rattle.net_addr.specs.declared.address.Addr.TheVariants.{V4}
use Rattle.net_addr.specs.Prefixes.{Prefix}
use Rattle.api_types.specs.Ident.{Ident}
use Rattle.api_types.specs.Owners.{is_dhcp, is_interface, is_router_port}
use Rattle.api_types.specs.RowLists.{RowLists}
use Rattle.api_types.specs.Table.{ident_eq}
use Rattle.api_types.specs.declared.floating.FloatingRow.{FloatingRow}
use Rattle.api_types.specs.declared.floating.Target.{Target}
use Rattle.api_types.specs.declared.group.GroupRow.{GroupRow}
use Rattle.api_types.specs.declared.group.RuleRow.{RuleRow}
use Rattle.api_types.specs.declared.network.NetworkRow.{NetworkRow}
use Rattle.api_types.specs.declared.network.Segment.{Segment}
use Rattle.api_types.specs.declared.network.Segment.TheVariants.{Flat, Local, Vlan, Vxlan}
use Rattle.api_types.specs.declared.port.Fixed.{Fixed}
use Rattle.api_types.specs.declared.port.Pair.{Pair}
use Rattle.api_types.specs.declared.port.PortRow.{PortRow}
use Rattle.api_types.specs.declared.router.RouterRow.{RouterRow}
use Rattle.api_types.specs.declared.subnet.SubnetRow.{SubnetRow}
use Rattle.api_types.specs.Ascending.{ascending}
use Rattle.api_types.specs.Members.{names_group, members}
use Rattle.api_types.specs.Holders.{dhcp_port, floating_holder, router_of}
use Rattle.api_types.specs.RowsWith.{router_with, subnet_with}
use Rattle.plane_types.specs.Hosts.{bridge_before, neighbour_before}
use Rattle.api_types.specs.Live.{is_joined, is_live, segment, is_at, is_here}
use Rattle.api_types.specs.Leases.{lease_for}
use Rattle.api_types.specs.RouterRows.{gateway_address, has_snat, legs_of, ways_of}
use Rattle.api_types.specs.RouterViews.{Way}
use Rattle.plane_types.specs.declared.table.BridgeKey.{BridgeKey}
use Rattle.plane_types.specs.declared.table.BridgeKey.TheVariants.{Dhcp as AtDhcp, Mac as AtMac}
use Rattle.plane_types.specs.declared.table.BridgeRow.{BridgeRow}
use Rattle.plane_types.specs.declared.table.BridgeTo.{BridgeTo}
use Rattle.plane_types.specs.declared.table.BridgeTo.TheVariants.{Tunnel as ToHost, Router as ToRouter, Tap as ToTap}
use Rattle.plane_types.specs.declared.table.Carrier.{Carrier}
use Rattle.plane_types.specs.declared.table.Carrier.TheVariants.{Tunnel as ByTunnel, Wire as ByWire}
use Rattle.plane_types.specs.declared.table.FilterRow.{FilterRow}
use Rattle.plane_types.specs.declared.table.FloatRow.{FloatRow}
use Rattle.plane_types.specs.declared.table.InwardRow.{InwardRow}
use Rattle.plane_types.specs.declared.table.LeaseRow.{LeaseRow}
use Rattle.plane_types.specs.declared.table.NeighbourRow.{NeighbourRow}
use Rattle.plane_types.specs.declared.table.RouteRow.{RouteRow}
use Rattle.plane_types.specs.declared.table.RouterPort.{RouterPort}
use Rattle.plane_types.specs.declared.table.RouterTable.{RouterTable}
use Rattle.plane_types.specs.declared.table.SetRow.{SetRow}
use Rattle.plane_types.specs.declared.table.TagRow.{TagRow}
use Rattle.plane_types.specs.declared.table.TapRow.{TapRow}

-- tags
abbrev pub is_tagged : RowLists → Text → NetworkRow → Bool
is_tagged rows host n = list_any (λ p. ident_eq n.id p.network && is_here rows host p) rows.ports

abbrev pub tag_of : List TagRow → Ident → Option ℕ
tag_of tags n =
    option_map (λ (t : TagRow). t.tag) (find (λ (t : TagRow). ident_eq n t.network) tags)

-- taps
abbrev pub is_tap : RowLists → Text → PortRow → Bool
is_tap rows host p = is_here rows host p && not (is_router_port p.owner)

-- each address as a prefix of its version's width
abbrev pub allowed_of : PortRow → List Pair
allowed_of p =
    map (λ (f : Fixed). record { mac = p.mac; prefix = whole_prefix f.address }) p.fixed ++ p.pairs

abbrev pub tap_of : PortRow → ℕ → TapRow
tap_of p tag = record {
  port = p.id;
  tag = tag;
  mac = p.mac;
  secured = p.secured;
  allowed = allowed_of p;
}

abbrev pub tap_row : RowLists → Text → List TagRow → PortRow → Option TapRow
tap_row rows host tags p =
    if is_tap rows host p then option_map (tap_of p) (tag_of tags p.network) else None

unfoldable pub tap_rows : RowLists → Text → List TagRow → List TapRow
tap_rows rows host tags = filter_map (tap_row rows host tags) rows.ports

-- filters
abbrev pub filter_of : PortRow → RuleRow → FilterRow
filter_of p r = record {
  port = p.id;
  direction = r.direction;
  ethertype = r.ethertype;
  protocol = r.protocol;
  low = r.low;
  high = r.high;
  remote_prefix = r.remote_prefix;
  remote_group = r.remote_group;
}

abbrev pub filter_by : PortRow → GroupRow → RuleRow → Option FilterRow
filter_by p g r = if ident_eq r.group g.id then Some (filter_of p r) else None

abbrev pub filters_of_group : RowLists → PortRow → GroupRow → List FilterRow
filters_of_group rows p g =
    if names_group g.id p.groups then filter_map (filter_by p g) rows.rules else []

abbrev pub filters_of : RowLists → Text → PortRow → List FilterRow
filters_of rows host p =
    if is_tap rows host p && p.secured then flat_map (filters_of_group rows p) rows.groups else []

unfoldable pub filter_rows : RowLists → Text → List FilterRow
filter_rows rows host = flat_map (filters_of rows host) rows.ports

-- sets
abbrev pub names_remote : Ident → Option Ident → Bool
names_remote g None = false
names_remote g (Some x) = ident_eq g x

abbrev pub set_rows_of : RowLists → List FilterRow → GroupRow → List SetRow
set_rows_of rows filters g =
    if list_any (λ (r : FilterRow). names_remote g.id r.remote_group) filters
    then map (λ (p : Prefix). record { group = g.id; prefix = p }) (members rows g.id)
    else []

unfoldable pub set_rows : RowLists → List FilterRow → List SetRow
set_rows rows filters = flat_map (set_rows_of rows filters) rows.groups

-- bridge
abbrev pub to_router : PortRow → Option RouterRow → Option BridgeTo
to_router q None = None
to_router q (Some r) = Some (ToRouter r.id q.id)

abbrev pub to_here : RowLists → PortRow → Option BridgeTo
to_here rows q =
    if is_router_port q.owner then to_router q (router_of rows q) else Some (ToTap q.id)

abbrev pub to_there : Segment → PortRow → Option BridgeTo
to_there Local q = None
to_there (Flat p) q = None
to_there (Vlan p t) q = None
to_there (Vxlan n) q = Some (ToHost q.host n)

abbrev pub end_of : RowLists → Text → PortRow → Option BridgeTo
end_of rows host q = if is_at host q then to_here rows q else to_there (segment rows q.network) q

abbrev pub bridge_by : BridgeKey → Option BridgeTo → Option ℕ → Option BridgeRow
bridge_by key None tag = None
bridge_by key (Some to) None = None
bridge_by key (Some to) (Some tag) = Some (record { tag = tag; key = key; to = to })

abbrev pub bridge_row : RowLists → Text → List TagRow → BridgeKey → PortRow → Option BridgeRow
bridge_row rows host tags key q =
    if is_live rows q then bridge_by key (end_of rows host q) (tag_of tags q.network) else None

abbrev pub mac_row : RowLists → Text → List TagRow → PortRow → Option BridgeRow
mac_row rows host tags q = bridge_row rows host tags (AtMac q.mac) q

abbrev pub dhcp_row : RowLists → Text → List TagRow → PortRow → Option BridgeRow
dhcp_row rows host tags q = if is_dhcp q.owner then bridge_row rows host tags AtDhcp q else None

unfoldable pub bridge_rows : RowLists → Text → List TagRow → List BridgeRow
bridge_rows rows host tags =
    ascending bridge_before
    (filter_map (mac_row rows host tags) rows.ports
    ++ filter_map (dhcp_row rows host tags) rows.ports)

-- inward
abbrev pub carrier_of : Segment → Option Carrier
carrier_of Local = None
carrier_of (Flat p) = Some (ByWire (record { physical = p; tag = None }))
carrier_of (Vlan p t) = Some (ByWire (record { physical = p; tag = Some t }))
carrier_of (Vxlan n) = Some (ByTunnel n)

abbrev pub inward_row : RowLists → TagRow → Option InwardRow
inward_row rows t =
    option_map (λ (c : Carrier). record { carrier = c; tag = t.tag })
    (carrier_of (segment rows t.network))

unfoldable pub inward_rows : RowLists → List TagRow → List InwardRow
inward_rows rows tags = filter_map (inward_row rows) tags

-- neighbours
abbrev pub neighbours_by : PortRow → Option ℕ → List NeighbourRow
neighbours_by q None = []
neighbours_by q (Some tag) =
    map (λ (f : Fixed). record { tag = tag; address = f.address; mac = q.mac }) q.fixed

abbrev pub neighbours_of : RowLists → Text → List TagRow → PortRow → List NeighbourRow
neighbours_of rows host tags q =
    if is_live rows q && is_joined rows q host then neighbours_by q (tag_of tags q.network) else []

abbrev pub floating_neighbour_by : RowLists → Text → List TagRow → FloatingRow → Option PortRow
    → Option NeighbourRow
floating_neighbour_by rows host tags f None = None
floating_neighbour_by rows host tags f (Some q) =
    if is_joined rows q host
    then option_map (λ tag. record { tag = tag; address = V4 f.address; mac = q.mac })
    (tag_of tags f.network)
    else None

abbrev pub floating_neighbour : RowLists → Text → List TagRow → FloatingRow → Option NeighbourRow
floating_neighbour rows host tags f =
    floating_neighbour_by rows host tags f (floating_holder rows f)

unfoldable pub neighbour_rows : RowLists → Text → List TagRow → List NeighbourRow
neighbour_rows rows host tags =
    ascending neighbour_before
    (flat_map (neighbours_of rows host tags) rows.ports
    ++ filter_map (floating_neighbour rows host tags) rows.floatings)

-- routers
abbrev pub is_host_of : Text → Option Text → Bool
is_host_of host None = false
is_host_of host (Some h) = bytes_eq h host

abbrev pub is_on_host : Text → RouterRow → Bool
is_on_host host r = is_host_of host r.host

-- the prefix of the subnet of each address
abbrev pub prefixes_for : RowLists → PortRow → List Prefix
prefixes_for rows p =
    filter_map
    (λ (f : Fixed). option_map (λ (s : SubnetRow). s.prefix) (subnet_with rows f.subnet)) p.fixed

abbrev pub router_port : RowLists → PortRow → ℕ → RouterPort
router_port rows p tag = record {
  port = p.id;
  tag = tag;
  mac = p.mac;
  addresses = map (λ (f : Fixed). f.address) p.fixed;
  prefixes = prefixes_for rows p;
  inside = is_interface p.owner;
}

abbrev pub tagged_by : RowLists → List TagRow → PortRow → Option RouterPort
tagged_by rows tags p = option_map (router_port rows p) (tag_of tags p.network)

abbrev pub router_row : RowLists → List TagRow → RouterRow → RouterTable
router_row rows tags r = record {
  router = r.id;
  up = r.up;
  snat = has_snat r.gateway;
  gateway = gateway_address rows r;
  ports = filter_map (tagged_by rows tags) (legs_of rows r);
}

unfoldable pub router_rows : RowLists → Text → List TagRow → List RouterTable
router_rows rows host tags =
    filter_map
    (λ r. if is_on_host host r then Some (router_row rows tags r) else None) rows.routers

abbrev pub route_row : Ident → Way → RouteRow
route_row r w = record {
  router = r;
  prefix = w.prefix;
  rank = w.rank;
  next = w.next;
  port = w.port;
}

unfoldable pub route_rows : RowLists → Text → List RouteRow
route_rows rows host =
    flat_map
    (λ r. if is_on_host host r then map (route_row r.id) (ways_of rows r) else []) rows.routers

abbrev pub is_hosted : Text → Option RouterRow → Bool
is_hosted host None = false
is_hosted host (Some r) = is_on_host host r

abbrev pub float_row_by : RowLists → Text → FloatingRow → Option Target → Option FloatRow
float_row_by rows host f None = None
float_row_by rows host f (Some t) =
    if is_hosted host (router_with rows t.router)
    then Some (record { id = f.id; router = t.router; floating = f.address; fixed = t.fixed })
    else None

unfoldable pub float_rows : RowLists → Text → List FloatRow
float_rows rows host =
    filter_map (λ (f : FloatingRow). float_row_by rows host f f.target) rows.floatings

-- leases
abbrev pub lease_row_by : RowLists → Text → List TagRow → PortRow → Option PortRow
    → Option LeaseRow
lease_row_by rows host tags q None = None
lease_row_by rows host tags q (Some d) =
    if is_at host d
    then option_and_then
    (λ lease. option_map
    (λ tag. record { port = q.id; tag = tag; mac = q.mac; lease = lease })
    (tag_of tags q.network))
    (lease_for rows d q)
    else None

abbrev pub lease_row : RowLists → Text → List TagRow → PortRow → Option LeaseRow
lease_row rows host tags q =
    if is_live rows q then lease_row_by rows host tags q (dhcp_port rows q.network) else None

unfoldable pub lease_rows : RowLists → Text → List TagRow → List LeaseRow
lease_rows rows host tags = filter_map (lease_row rows host tags) rows.ports
