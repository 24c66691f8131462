-- The ports of routers, of DHCP and of floating addresses are there and serve what they are for.
use Rattle.std.specs.Prelude.{◌≡◌, ℕ, ◌≤◌, ◌==◌, ◌&&◌, ◌||◌, not, cond, Bool, false, List, [], ◌∷◌, count_by}
use Rattle.std.specs.List.{list_any, list_all}
use Rattle.api_types.specs.Ident.{Ident}
use Rattle.api_types.specs.Table.{ident_eq}
use Rattle.api_types.specs.Lists.{Each, Pass, stands_so, if_some, is_empty, is_one}
use Rattle.api_types.specs.Owners.{is_interface, is_gateway, is_dhcp, is_floating, is_router_port, device_is}
use Rattle.api_types.specs.Consistent.Named.{is_own_port}
use Rattle.api_types.specs.Consistent.Carried.{is_unbound}
use Rattle.api_types.specs.Consistent.Services.{wanted_gateways}
use Rattle.api_types.specs.declared.network.NetworkRow.{NetworkRow}
use Rattle.api_types.specs.declared.router.Gateway.{Gateway}
use Rattle.api_types.specs.declared.floating.FloatingRow.{FloatingRow}
use Rattle.old_rows.specs.OldConsistent.Disjoint.{is_port_of}
use Rattle.old_rows.specs.OldLists.{OldLists}
use Rattle.old_rows.specs.declared.subnet.OldSubnet.{OldSubnet}
use Rattle.old_rows.specs.declared.port.OldPort.{OldPort}
use Rattle.old_rows.specs.declared.port.Fixed4.{Fixed4}
use Rattle.old_rows.specs.declared.router.OldRouter.{OldRouter}

-- DHCP

abbrev pub is_dhcp_of : Ident → OldPort → Bool
is_dhcp_of network p = ident_eq network p.network && is_dhcp p.owner

abbrev pub wants_dhcp : List OldSubnet → Ident → Bool
wants_dhcp subnets network = list_any (λ s. ident_eq network s.network && s.dhcp) subnets

-- how many addresses a port holds in a subnet
abbrev pub holds_count : Ident → OldPort → ℕ
holds_count subnet p = count_by (λ (f : Fixed4). ident_eq subnet f.subnet) p.fixed

-- one address where the subnet is of the port's network and is leased by DHCP
abbrev pub leases : OldPort → OldSubnet → Bool
leases p s = not (ident_eq p.network s.network && s.dhcp) || (holds_count s.id p == 1)

abbrev pub is_leased : List OldSubnet → Fixed4 → Bool
is_leased subnets f = stands_so (λ s. s.id) f.subnet (λ s. s.dhcp) subnets

-- a network has its DHCP port, and no second one, exactly where a subnet of it is leased by DHCP
pub record DhcpPortsServe (networks : List NetworkRow) (subnets : List OldSubnet)
    (ports : List OldPort) : Type 0 where
  pub there : Each (λ n. count_by (is_dhcp_of n.id) ports ≡ cond (wants_dhcp subnets n.id) 1 0)
      networks
  pub holds : Pass (λ p. not (is_dhcp p.owner) || list_all (leases p) subnets) ports
  pub no_other : Pass (λ p. not (is_dhcp p.owner) || list_all (is_leased subnets) p.fixed) ports
  pub unsecured : Pass (λ p. not (is_dhcp p.owner) || not p.secured) ports

-- routers

abbrev pub is_gateway_of : Ident → OldPort → Bool
is_gateway_of router p = is_gateway p.owner && device_is p.device router

abbrev pub is_named_gateway : OldRouter → Gateway → OldPort → Bool
is_named_gateway r g p =
    is_gateway_of r.id p && (ident_eq g.network p.network && ident_eq g.port p.id)

-- a router's ports by owner name a router that is there; a router has one gateway port, that which
-- it names, exactly where it has a gateway
pub record RouterPortsServe (ports : List OldPort) (routers : List OldRouter) : Type 0 where
  pub devices : Pass (λ p. not (is_router_port p.owner) || list_any (λ r. is_port_of r p) routers)
      ports
  pub interfaces : Pass (λ p. not (is_interface p.owner) || is_one p.fixed) ports
  pub gateways : Pass (λ p. not (is_gateway p.owner) || not (is_empty p.fixed)) ports
  pub unsecured : Pass (λ p. not (is_router_port p.owner) || not p.secured) ports
  pub counts : Each (λ r. count_by (is_gateway_of r.id) ports ≡ wanted_gateways r.gateway) routers
  pub named : Pass (λ r. if_some (λ g. list_any (is_named_gateway r g) ports) r.gateway) routers

-- floating addresses

abbrev pub holds_just : ℕ → List Fixed4 → Bool
holds_just x (f ∷ []) = f.address == x
holds_just x _ = false

-- on the floating address's network, with the owner, with just the address, and unbound
abbrev pub is_port_for : FloatingRow → OldPort → Bool
is_port_for f p =
    ident_eq f.network p.network && is_floating p.owner && holds_just f.address p.fixed
    && is_unbound p.vif

pub record OwnPortsServe (ports : List OldPort) (floatings : List FloatingRow) : Type 0 where
  pub once : (i : Ident) → count_by (λ f. ident_eq i f.own_port) floatings ≤ 1
  pub there : Pass (λ f. stands_so (λ p. p.id) f.own_port (is_port_for f) ports) floatings
  pub unsecured : Pass (λ p. not (is_own_port floatings p.id) || not p.secured) ports

pub record ServicesStand (old : OldLists) : Type 0 where
  pub dhcp : DhcpPortsServe old.networks old.subnets old.ports
  pub of_routers : RouterPortsServe old.ports old.routers
  pub of_floatings : OwnPortsServe old.ports old.floatings
