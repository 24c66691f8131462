-- The rules of a router's attributes that speak of rows, in the order in which they are tried.
-- Each is looked at where the rows of which it speaks are there and seen, and names its attribute.
use Rattle.api_types.specs.HeldAddresses.{subnets_on}
use Rattle.api_types.specs.RouterWays.{is_bad_hop, router_ports, touches}
use Rattle.api_types.specs.Given.{value_or}
use Rattle.api_types.specs.Refusing.{when}
use Rattle.api_types.specs.Lists.{is_one}
use Rattle.api_types.specs.Owners.{holds_in}
use Rattle.api_types.specs.RowLists.{RowLists}
use Rattle.api_types.specs.Sharing.{is_external_to}
use Rattle.api_types.specs.declared.form.Given.{Given}
use Rattle.api_types.specs.declared.network.NetworkRow.{NetworkRow}
use Rattle.api_types.specs.declared.port.PortRow.{PortRow}
use Rattle.api_types.specs.declared.refusal.Refusal.TheVariants.{Invalid}
use Rattle.api_types.specs.declared.refusal.Refusal.{Refusal}
use Rattle.api_types.specs.declared.router.RouterRow.{RouterRow}
use Rattle.api_types.specs.declared.subnet.Hop.{Hop}
use Rattle.api_types.specs.declared.subnet.SubnetRow.{SubnetRow}
use Rattle.net_addr.specs.Prefixes.{overlaps}
use Rattle.std.specs.List.{list_any}
use Rattle.std.specs.Prelude.{Bool, List, Option, [], codes, not, ◌&&◌, ◌||◌}
use Rattle.net_addr.specs.Words.{Text}

-- a subnet of the network overlaps one of an interface
abbrev pub overlaps_interface : RowLists → List PortRow → NetworkRow → Bool
overlaps_interface rows interfaces n =
    list_any (λ (s : SubnetRow). list_any (touches rows.subnets s.prefix) interfaces)
    (subnets_on rows.subnets n.id)

-- the rule of `external_gateway_info`, by the router's project and its interfaces
abbrev pub bad_gateway : RowLists → Text → List PortRow → NetworkRow → Option Refusal
bad_gateway rows project interfaces n =
    when (not (is_external_to rows.policies n.id project) || overlaps_interface rows interfaces n)
    (Invalid (codes "external_gateway_info"))

-- `routes`: each next hop is reached by the ports that the router has
abbrev pub bad_routes : RowLists → RouterRow → Given (List Hop) → Option Refusal
bad_routes rows r routes =
    when (list_any (is_bad_hop rows.subnets (router_ports rows.ports r)) (value_or [] routes))
    (Invalid (codes "routes"))

-- `subnet_id` and `port_id` of an interface: its subnet overlaps none of the router's ports
abbrev pub overlaps_leg : RowLists → RouterRow → SubnetRow → Bool
overlaps_leg rows r s = list_any (touches rows.subnets s.prefix) (router_ports rows.ports r)

abbrev pub bad_interface_subnet : RowLists → RouterRow → SubnetRow → Option Refusal
bad_interface_subnet rows r s = when (overlaps_leg rows r s) (Invalid (codes "subnet_id"))

-- the port has exactly one address, and its subnet overlaps none of the router's ports
abbrev pub is_bad_leg : RowLists → RouterRow → PortRow → Bool
is_bad_leg rows r p =
    not (is_one p.fixed)
    || list_any (λ (s : SubnetRow). holds_in s.id p && overlaps_leg rows r s) rows.subnets

abbrev pub bad_interface_port : RowLists → RouterRow → PortRow → Option Refusal
bad_interface_port rows r p = when (is_bad_leg rows r p) (Invalid (codes "port_id"))
