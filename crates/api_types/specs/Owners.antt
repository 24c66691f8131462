-- What a port is for, by its `device_owner` (Networking API v2.0, ports; Neutron's constants of
-- device owners).
use Rattle.std.specs.Prelude.{◌&&◌, ◌||◌, Bool, codes, take}
use Rattle.std.specs.List.{list_any}
use Rattle.std.specs.Str.{bytes_eq}
use Rattle.net_addr.specs.Words.{Text}
use Rattle.api_types.specs.Ident.{Ident, ident_text}
use Rattle.api_types.specs.Table.{ident_eq}
use Rattle.api_types.specs.declared.port.PortRow.{PortRow}
use Rattle.api_types.specs.declared.port.Fixed.{Fixed}
use Rattle.api_types.specs.declared.router.RouterRow.{RouterRow}

-- a router's interface on a subnet
unfoldable pub is_interface : Text → Bool
is_interface owner = bytes_eq owner (codes "network:router_interface")

-- a router's port on its external network
unfoldable pub is_gateway : Text → Bool
is_gateway owner = bytes_eq owner (codes "network:router_gateway")

-- the port from which a network's addresses are leased
unfoldable pub is_dhcp : Text → Bool
is_dhcp owner = bytes_eq owner (codes "network:dhcp")

-- the port that holds a floating address
unfoldable pub is_floating : Text → Bool
is_floating owner = bytes_eq owner (codes "network:floatingip")

-- a service's port: Neutron's owners of these begin so
abbrev pub is_service : Text → Bool
is_service owner = bytes_eq (take 8 owner) (codes "network:")

abbrev pub is_router_port : Text → Bool
is_router_port owner = is_interface owner || is_gateway owner

-- whether a `device_id` is the printed text of an id
unfoldable pub device_is : Text → Ident → Bool
device_is device i = bytes_eq device (ident_text i)

-- whether a port is a router's, and this router's
abbrev pub is_port_of : RouterRow → PortRow → Bool
is_port_of r p = is_router_port p.owner && device_is p.device r.id

-- whether a port holds an address in a subnet
abbrev pub holds_in : Ident → PortRow → Bool
holds_in subnet p = list_any (λ (f : Fixed). ident_eq subnet f.subnet) p.fixed

-- whether a port is its network's DHCP port
abbrev pub is_dhcp_of : Ident → PortRow → Bool
is_dhcp_of network p = ident_eq network p.network && is_dhcp p.owner
