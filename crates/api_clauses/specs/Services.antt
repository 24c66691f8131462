-- What consistency asks of the ports of DHCP, of routers and of floating addresses (Networking API
-- reference v2.0, the refusals of each call; Neutron's constants of device owners). Where two rows
-- break a clause together, both fail.
use Rattle.std.specs.Prelude.{◌==◌, ◌&&◌, ◌||◌, not, nat_le, Bool, List, count_by, cond}
use Rattle.std.specs.List.{list_all, list_any}
use Rattle.api_types.specs.Table.{ident_eq}
use Rattle.api_types.specs.Lists.{if_some, is_empty, stands_so, is_one}
use Rattle.api_types.specs.Owners.{is_dhcp, is_interface, is_gateway, is_router_port, is_port_of, is_dhcp_of}
use Rattle.api_types.specs.RowLists.{RowLists}
use Rattle.api_types.specs.Consistent.Named.{is_own_port}
use Rattle.api_types.specs.Consistent.Services.{wants_dhcp, leases, is_leased, is_gateway_of, is_named_gateway, wanted_gateways, is_port_for}
use Rattle.api_types.specs.declared.network.NetworkRow.{NetworkRow}
use Rattle.api_types.specs.declared.subnet.SubnetRow.{SubnetRow}
use Rattle.api_types.specs.declared.port.PortRow.{PortRow}
use Rattle.api_types.specs.declared.router.RouterRow.{RouterRow}
use Rattle.api_types.specs.declared.floating.FloatingRow.{FloatingRow}

abbrev pub network_served : RowLists → NetworkRow → Bool
network_served rows n =
    count_by (is_dhcp_of n.id) rows.ports == cond (wants_dhcp rows.subnets n.id) 1 0

abbrev pub dhcp_serves : List SubnetRow → PortRow → Bool
dhcp_serves subnets p =
    not (is_dhcp p.owner)
    || (list_all (leases p) subnets && (list_all (is_leased subnets) p.fixed && not p.secured))

abbrev pub router_port_serves : List RouterRow → PortRow → Bool
router_port_serves routers p =
    (not (is_router_port p.owner) || (list_any (λ r. is_port_of r p) routers && not p.secured))
    && ((not (is_interface p.owner) || is_one p.fixed)
    && (not (is_gateway p.owner) || not (is_empty p.fixed)))

abbrev pub port_serves : RowLists → PortRow → Bool
port_serves rows p =
    dhcp_serves rows.subnets p
    && (router_port_serves rows.routers p
    && (not (is_own_port rows.floatings p.id) || not p.secured))

abbrev pub router_served : List PortRow → RouterRow → Bool
router_served ports r =
    (count_by (is_gateway_of r.id) ports == wanted_gateways r.gateway)
    && if_some (λ g. list_any (is_named_gateway r g) ports) r.gateway

abbrev pub floating_served : RowLists → FloatingRow → Bool
floating_served rows f =
    nat_le (count_by (λ g. ident_eq f.own_port g.own_port) rows.floatings) 1
    && stands_so (λ p. p.id) f.own_port (is_port_for f) rows.ports
