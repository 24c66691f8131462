-- The next hop of an extra route lies in a subnet in which a port of the router holds an address.
use Rattle.std.specs.Prelude.{◌&&◌, Bool, List}
use Rattle.std.specs.List.{list_any, list_all}
use Rattle.net_addr.specs.Prefixes.{contains}
use Rattle.api_types.specs.Lists.{Pass}
use Rattle.api_types.specs.Owners.{is_port_of, holds_in}
use Rattle.api_types.specs.declared.subnet.SubnetRow.{SubnetRow}
use Rattle.api_types.specs.declared.subnet.Hop.{Hop}
use Rattle.api_types.specs.declared.port.PortRow.{PortRow}
use Rattle.api_types.specs.declared.router.RouterRow.{RouterRow}

-- a port of the router holds an address in a subnet that contains the next hop
abbrev pub is_reached : List SubnetRow → List PortRow → RouterRow → Hop → Bool
is_reached subnets ports r hop =
    list_any (λ p.
    is_port_of r p && list_any (λ s. holds_in s.id p && contains s.prefix hop.next) subnets)
    ports

pub record RoutesLead (subnets : List SubnetRow) (ports : List PortRow) (routers : List RouterRow)
    : Type 0 where
  pub routes : Pass (λ r. list_all (is_reached subnets ports r) r.routes) routers
