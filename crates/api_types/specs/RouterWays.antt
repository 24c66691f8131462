-- What a router reaches by its ports, and who leads by it.
use Rattle.api_types.specs.HeldAddresses.{is_own_address}
use Rattle.api_types.specs.Ident.{Ident}
use Rattle.api_types.specs.Owners.{holds_in, is_interface, is_port_of}
use Rattle.api_types.specs.Table.{ident_eq}
use Rattle.api_types.specs.declared.port.PortRow.{PortRow}
use Rattle.api_types.specs.declared.router.RouterRow.{RouterRow}
use Rattle.api_types.specs.declared.subnet.Hop.{Hop}
use Rattle.api_types.specs.declared.subnet.SubnetRow.{SubnetRow}
use Rattle.net_addr.specs.Prefixes.{Prefix, contains, overlaps}
use Rattle.net_addr.specs.declared.address.Addr.{Addr}
use Rattle.std.specs.List.{list_any}
use Rattle.std.specs.Prelude.{Bool, List, filter, not, ◌&&◌, ◌||◌}

-- a router's ports, its interfaces and its gateway port
abbrev pub router_ports : List PortRow → RouterRow → List PortRow
router_ports ports r = filter (is_port_of r) ports

abbrev pub interfaces_of : List PortRow → RouterRow → List PortRow
interfaces_of ports r = filter (λ (p : PortRow). is_interface p.owner && is_port_of r p) ports

-- the port holds an address in a subnet that contains the address
abbrev pub reaches : List SubnetRow → Addr → PortRow → Bool
reaches subnets x p = list_any (λ (s : SubnetRow). holds_in s.id p && contains s.prefix x) subnets

-- and in one that overlaps the prefix
abbrev pub touches : List SubnetRow → Prefix → PortRow → Bool
touches subnets prefix p =
    list_any (λ (s : SubnetRow). holds_in s.id p && overlaps prefix s.prefix) subnets

-- a next hop has to lie in a subnet of a port of the router, and be none of its addresses
abbrev pub is_bad_hop : List SubnetRow → List PortRow → Hop → Bool
is_bad_hop subnets legs hop =
    list_any (is_own_address hop.next) legs || not (list_any (reaches subnets hop.next) legs)

-- the ports but one
abbrev pub other_ports : Ident → List PortRow → List PortRow
other_ports i ports = filter (λ (p : PortRow). not (ident_eq i p.id)) ports

-- a next hop lies in a subnet of the port that goes, and in none of another port
abbrev pub is_lost_hop : List SubnetRow → List PortRow → PortRow → Hop → Bool
is_lost_hop subnets others p hop =
    reaches subnets hop.next p && not (list_any (reaches subnets hop.next) others)
