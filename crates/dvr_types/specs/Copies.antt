-- What a host has beside its tables to route by itself: a copy of each router that has a live
-- interface on a vxlan network, and whom it finds on these networks (Neutron's administration
-- guide, distributed virtual routing: each compute node has an instance of the router; RFC 7348 for
-- numbers of vxlan networks).
use Rattle.api_types.specs.Holders.{floating_holder, router_of}
use Rattle.api_types.specs.Ident.{Ident}
use Rattle.api_types.specs.Live.{is_at, is_live, segment}
use Rattle.api_types.specs.Owners.{is_interface, is_router_port}
use Rattle.api_types.specs.RouterRows.{gateway_address, has_snat, legs_of, ways_of}
use Rattle.api_types.specs.RowLists.{RowLists}
use Rattle.api_types.specs.RowsWith.{router_with}
use Rattle.api_types.specs.Table.{ident_eq}
use Rattle.api_types.specs.declared.floating.FloatingRow.{FloatingRow}
use Rattle.api_types.specs.declared.floating.Target.{Target}
use Rattle.api_types.specs.declared.network.Segment.{Segment}
use Rattle.api_types.specs.declared.network.Segment.TheVariants.{Flat, Local, Vlan, Vxlan}
use Rattle.api_types.specs.declared.port.Fixed.{Fixed}
use Rattle.api_types.specs.declared.port.PortRow.{PortRow}
use Rattle.api_types.specs.declared.router.RouterRow.{RouterRow}
use Rattle.dvr_types.specs.declared.copies.Copies.{Copies}
use Rattle.dvr_types.specs.declared.copies.CopyPort.{CopyPort}
use Rattle.dvr_types.specs.declared.copies.NearRow.{NearRow}
use Rattle.dvr_types.specs.declared.copies.NearTo.{NearTo}
use Rattle.dvr_types.specs.declared.copies.NearTo.TheVariants.{Router as NearRouter, Tap as NearTap, Tunnel as NearTunnel}
use Rattle.dvr_types.specs.declared.copies.RouterCopy.{RouterCopy}
use Rattle.net_addr.specs.Words.{Text}
use Rattle.net_addr.specs.declared.address.Addr.{Addr}
use Rattle.net_addr.specs.declared.address.Addr.TheVariants.{V4}
use Rattle.plane_types.specs.TableRows.{prefixes_for, route_row}
use Rattle.plane_types.specs.declared.table.FloatRow.{FloatRow}
use Rattle.plane_types.specs.declared.table.RouteRow.{RouteRow}
use Rattle.std.specs.List.{filter_map, list_any}
use Rattle.std.specs.Prelude.{Bool, List, None, Option, Some, [], false, flat_map, if◌then◌else◌, is_some, map, not, option_and_then, ℕ, ◌&&◌, ◌++◌}

-- vxlan networks
abbrev pub vxlan_number : Segment → Option ℕ
vxlan_number Local = None
vxlan_number (Flat p) = None
vxlan_number (Vlan p t) = None
vxlan_number (Vxlan n) = Some n

abbrev pub is_vxlan_segment : Segment → Bool
is_vxlan_segment s = is_some (vxlan_number s)

-- whether a live port is an interface on one
abbrev pub is_vxlan_interface : RowLists → PortRow → Bool
is_vxlan_interface rows p = is_interface p.owner && is_vxlan_segment (segment rows p.network)

-- routers: each with its live ports, and beside a port's network the number, if that is vxlan
abbrev pub is_copied : RowLists → RouterRow → Bool
is_copied rows r = list_any (is_vxlan_interface rows) (legs_of rows r)

abbrev pub copy_port : RowLists → PortRow → CopyPort
copy_port rows p = record {
  port = p.id;
  network = p.network;
  number = vxlan_number (segment rows p.network);
  mac = p.mac;
  addresses = map (λ (f : Fixed). f.address) p.fixed;
  prefixes = prefixes_for rows p;
  inside = is_interface p.owner;
}

abbrev pub router_copy : RowLists → RouterRow → RouterCopy
router_copy rows r = record {
  router = r.id;
  up = r.up;
  snat = has_snat r.gateway;
  gateway = gateway_address rows r;
  ports = map (copy_port rows) (legs_of rows r);
}

abbrev pub copy_of_router : RowLists → RouterRow → Option RouterCopy
copy_of_router rows r = if is_copied rows r then Some (router_copy rows r) else None

unfoldable pub router_copies : RowLists → List RouterCopy
router_copies rows = filter_map (copy_of_router rows) rows.routers

-- their routes
unfoldable pub routes_of_copies : RowLists → List RouteRow
routes_of_copies rows =
    flat_map
    (λ r. if is_copied rows r then map (route_row r.id) (ways_of rows r) else []) rows.routers

-- their floating addresses
abbrev pub is_copied_router : RowLists → Option RouterRow → Bool
is_copied_router rows None = false
is_copied_router rows (Some r) = is_copied rows r

abbrev pub copy_float : RowLists → FloatingRow → Option Target → Option FloatRow
copy_float rows f None = None
copy_float rows f (Some t) =
    if is_copied_router rows (router_with rows t.router)
    then Some (record { id = f.id; router = t.router; floating = f.address; fixed = t.fixed })
    else None

unfoldable pub floats_of_copies : RowLists → List FloatRow
floats_of_copies rows = filter_map (λ (f : FloatingRow). copy_float rows f f.target) rows.floatings

-- networks on which packets are near: vxlan networks with a live interface
abbrev pub is_live_interface : RowLists → Ident → PortRow → Bool
is_live_interface rows n p = ident_eq n p.network && is_interface p.owner && is_live rows p

abbrev pub is_near_network : RowLists → Ident → Bool
is_near_network rows n =
    is_vxlan_segment (segment rows n) && list_any (is_live_interface rows n) rows.ports

-- to an interface's router, to a tap here, otherwise to the holder's host; the two hosts are named
-- with the network's number
abbrev pub to_interface : PortRow → ℕ → Option RouterRow → NearTo
to_interface q number None = NearTunnel q.host number
to_interface q number (Some r) = NearRouter r.id q.host number

abbrev pub near_target : RowLists → Text → PortRow → ℕ → NearTo
near_target rows host q number =
    if is_interface q.owner then to_interface q number (router_of rows q)
    else if not (is_router_port q.owner) && is_at host q then NearTap q.id
    else NearTunnel q.host number

abbrev pub near_row_by : RowLists → Text → PortRow → Addr → Option ℕ → Option NearRow
near_row_by rows host q x None = None
near_row_by rows host q x (Some number) =
    Some (record {
      network = q.network;
      address = x;
      mac = q.mac;
      to = near_target rows host q number;
    })

-- whom an address leads to
abbrev pub near_row : RowLists → Text → Addr → PortRow → Option NearRow
near_row rows host x q =
    if is_near_network rows q.network
    then near_row_by rows host q x (vxlan_number (segment rows q.network))
    else None

abbrev pub near_rows_of : RowLists → Text → PortRow → List NearRow
near_rows_of rows host q =
    if is_live rows q then filter_map (λ (f : Fixed). near_row rows host f.address q) q.fixed
    else []

abbrev pub near_floating : RowLists → Text → FloatingRow → Option NearRow
near_floating rows host f =
    option_and_then (near_row rows host (V4 f.address)) (floating_holder rows f)

unfoldable pub near_rows : RowLists → Text → List NearRow
near_rows rows host =
    flat_map (near_rows_of rows host) rows.ports
    ++ filter_map (near_floating rows host) rows.floatings

-- what a host has beside its tables, if it holds the rows
abbrev pub copies_for : RowLists → Text → Copies
copies_for rows host = record {
  copies = router_copies rows;
  copy_routes = routes_of_copies rows;
  copy_floats = floats_of_copies rows;
  near = near_rows rows host;
}
