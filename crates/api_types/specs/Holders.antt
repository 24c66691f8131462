-- Who is found on a network: the port of a MAC, the holder of an address, the DHCP port.
use Rattle.std.specs.Prelude.{ℕ, ◌&&◌, ◌==◌, Bool, Option, Some, None, if◌then◌else◌, find, option_and_then}
use Rattle.std.specs.List.{list_any}
use Rattle.std.specs.Option.{option_or}
use Rattle.net_addr.specs.Addresses.{addr_eq}
use Rattle.net_addr.specs.declared.address.Addr.{Addr}
use Rattle.net_addr.specs.declared.address.Addr.TheVariants.{V4}
use Rattle.api_types.specs.Ident.{Ident}
use Rattle.api_types.specs.Owners.{device_is, is_dhcp_of}
use Rattle.api_types.specs.RowLists.{RowLists}
use Rattle.api_types.specs.RowsWith.{port_with, router_with}
use Rattle.api_types.specs.Table.{ident_eq}
use Rattle.api_types.specs.declared.floating.FloatingRow.{FloatingRow}
use Rattle.api_types.specs.declared.floating.Target.{Target}
use Rattle.api_types.specs.declared.port.Fixed.{Fixed}
use Rattle.api_types.specs.declared.port.PortRow.{PortRow}
use Rattle.api_types.specs.declared.router.Gateway.{Gateway}
use Rattle.api_types.specs.declared.router.RouterRow.{RouterRow}
use Rattle.api_types.specs.Live.{is_live}

-- the live port of the network with the MAC
abbrev pub has_mac : RowLists → Ident → ℕ → PortRow → Bool
has_mac rows n mac q = ident_eq n q.network && (q.mac == mac) && is_live rows q

abbrev pub port_at : RowLists → Ident → ℕ → Option PortRow
port_at rows n mac = find (has_mac rows n mac) rows.ports

-- the live port of the network with that fixed address ..
abbrev pub holds : PortRow → Addr → Bool
holds q x = list_any (λ (f : Fixed). addr_eq f.address x) q.fixed

abbrev pub holds_live : RowLists → Ident → Addr → PortRow → Bool
holds_live rows n x q = ident_eq n q.network && holds q x && is_live rows q

abbrev pub gateway_port_of : RowLists → Option Gateway → Option PortRow
gateway_port_of rows None = None
gateway_port_of rows (Some g) = port_with rows g.port

abbrev pub gateway_port : RowLists → RouterRow → Option PortRow
gateway_port rows r = gateway_port_of rows r.gateway

abbrev pub target_router : RowLists → Option Target → Option RouterRow
target_router rows None = None
target_router rows (Some t) = router_with rows t.router

abbrev pub live_on : RowLists → Ident → Option PortRow → Option PortRow
live_on rows n None = None
live_on rows n (Some q) = if ident_eq n q.network && is_live rows q then Some q else None

-- .. or, for an associated floating address of the network, the live gateway port on the network
-- of the router that it names
unfoldable pub floating_holder : RowLists → FloatingRow → Option PortRow
floating_holder rows f =
    live_on rows f.network (option_and_then (gateway_port rows) (target_router rows f.target))

abbrev pub floats_at : Ident → Addr → FloatingRow → Bool
floats_at n x f = ident_eq n f.network && addr_eq (V4 f.address) x

abbrev pub held_by_floating : RowLists → Ident → Addr → Option PortRow
held_by_floating rows n x =
    option_and_then (floating_holder rows) (find (floats_at n x) rows.floatings)

abbrev pub holder : RowLists → Ident → Addr → Option PortRow
holder rows n x = option_or (find (holds_live rows n x) rows.ports) (held_by_floating rows n x)

-- the live DHCP port of the network
abbrev pub is_live_dhcp_of : RowLists → Ident → PortRow → Bool
is_live_dhcp_of rows n q = is_dhcp_of n q && is_live rows q

abbrev pub dhcp_port : RowLists → Ident → Option PortRow
dhcp_port rows n = find (is_live_dhcp_of rows n) rows.ports

-- the router that a port names by its device
abbrev pub router_of : RowLists → PortRow → Option RouterRow
router_of rows p = find (λ (r : RouterRow). device_is p.device r.id) rows.routers
