-- Rows with another one in place of one, and what has to hold of the two.
use Rattle.std.specs.Prelude.{◌≡◌, ◌≤◌, ℕ, Bool, List, true, false, slice_set, length, count_by, nat_le}
use Rattle.std.specs.Prelude.{◌&&◌, ◌||◌, not, Option, Some, None}
use Rattle.std.specs.List.{list_any, list_all}
use Rattle.net_addr.specs.Words.{Text}
use Rattle.net_addr.specs.Addresses.{is_four}
use Rattle.api_types.specs.Ident.{Ident}
use Rattle.api_types.specs.Table.{ident_eq}
use Rattle.api_types.specs.RowLists.{RowLists}
use Rattle.api_types.specs.Lists.{Each, Pass, if_some, is_empty}
use Rattle.api_types.specs.Owners.{is_interface, is_gateway, is_dhcp, is_floating}
use Rattle.api_types.specs.Consistent.Named.{names_subnet}
use Rattle.api_types.specs.Consistent.InForm.{is_group_of, is_port_form}
use Rattle.api_types.specs.Consistent.HeldOnce.{AreHeldOnce}
use Rattle.api_types.specs.Consistent.Hosts.{is_host_in, is_own_address}
use Rattle.api_types.specs.Consistent.Floating.{leads_to, stands_for}
use Rattle.api_types.specs.Consistent.Permitted.{same_policy}
use Rattle.api_types.specs.Consistent.NextHops.{is_reached}
use Rattle.row_laws.specs.Gone.{ArePermittedStill}
use Rattle.api_types.specs.declared.network.NetworkRow.{NetworkRow}
use Rattle.api_types.specs.declared.subnet.SubnetRow.{SubnetRow}
use Rattle.api_types.specs.declared.port.PortRow.{PortRow}
use Rattle.api_types.specs.declared.port.Fixed.{Fixed}
use Rattle.api_types.specs.declared.group.GroupRow.{GroupRow}
use Rattle.api_types.specs.declared.group.RuleRow.{RuleRow}
use Rattle.api_types.specs.declared.router.RouterRow.{RouterRow}
use Rattle.api_types.specs.declared.router.Gateway.{Gateway}
use Rattle.api_types.specs.declared.floating.FloatingRow.{FloatingRow}
use Rattle.api_types.specs.declared.floating.Target.{Target}
use Rattle.api_types.specs.declared.policy.PolicyRow.{PolicyRow}

abbrev pub with_network_at : RowLists → ℕ → NetworkRow → RowLists
with_network_at rows place r = record rows { networks = slice_set rows.networks place r }

abbrev pub with_subnet_at : RowLists → ℕ → SubnetRow → RowLists
with_subnet_at rows place r = record rows { subnets = slice_set rows.subnets place r }

abbrev pub with_port_at : RowLists → ℕ → PortRow → RowLists
with_port_at rows place r = record rows { ports = slice_set rows.ports place r }

abbrev pub with_group_at : RowLists → ℕ → GroupRow → RowLists
with_group_at rows place r = record rows { groups = slice_set rows.groups place r }

abbrev pub with_rule_at : RowLists → ℕ → RuleRow → RowLists
with_rule_at rows place r = record rows { rules = slice_set rows.rules place r }

abbrev pub with_router_at : RowLists → ℕ → RouterRow → RowLists
with_router_at rows place r = record rows { routers = slice_set rows.routers place r }

abbrev pub with_floating_at : RowLists → ℕ → FloatingRow → RowLists
with_floating_at rows place r = record rows { floatings = slice_set rows.floatings place r }

abbrev pub with_policy_at : RowLists → ℕ → PolicyRow → RowLists
with_policy_at rows place r = record rows { policies = slice_set rows.policies place r }

-- two networks that differ in name, description and state alone
pub record IsRenamedNetwork (old new : NetworkRow) : Type 0 where
  pub id : new.id ≡ old.id
  pub project : new.project ≡ old.project
  pub segment : new.segment ≡ old.segment

-- where the address is the floating address's target, the port still holds it in the same subnet
abbrev pub is_held_still : PortRow → Target → Fixed → Bool
is_held_still new t x =
    not (is_four x.address t.fixed)
    || list_any (λ (y : Fixed). is_four y.address t.fixed && ident_eq x.subnet y.subnet) new.fixed

-- an owner that is no service's
pub record ServesNothing (owner : Text) : Type 0 where
  pub no_interface : is_interface owner ≡ false
  pub no_gateway : is_gateway owner ≡ false
  pub no_dhcp : is_dhcp owner ≡ false
  pub no_floating : is_floating owner ≡ false

-- the port of no service in place of an old one: what never changes, and what has to hold of what
-- does
pub record IsReplacedPort (rows : RowLists) (place : ℕ) (old new : PortRow) : Type 0 where
  pub id : new.id ≡ old.id
  pub network : new.network ≡ old.network
  pub project : new.project ≡ old.project
  pub by_admin : new.by_admin ≡ old.by_admin
  pub before : ServesNothing old.owner
  pub after : ServesNothing new.owner
  pub form : is_port_form new ≡ true
  pub held_once : AreHeldOnce (slice_set rows.ports place new)
  pub subnets : list_all (names_subnet rows.subnets new) new.fixed ≡ true
  pub hosts : list_all (is_host_in rows.subnets new) new.fixed ≡ true
  pub groups : list_all (is_group_of rows.groups new.project) new.groups ≡ true
  pub bare : new.secured || (is_empty new.groups && is_empty new.pairs) ≡ true
  pub targets : Each (λ f.
      if_some
      (λ (t : Target). not (ident_eq t.port old.id) || list_all (is_held_still new t) old.fixed)
      f.target ≡ true) rows.floatings

-- two ports, of any owner, that differ in name and description alone
pub record IsRenamedPort (old new : PortRow) : Type 0 where
  pub id : new.id ≡ old.id
  pub project : new.project ≡ old.project
  pub network : new.network ≡ old.network
  pub up : new.up ≡ old.up
  pub mac : new.mac ≡ old.mac
  pub fixed : new.fixed ≡ old.fixed
  pub pairs : new.pairs ≡ old.pairs
  pub secured : new.secured ≡ old.secured
  pub groups : new.groups ≡ old.groups
  pub device : new.device ≡ old.device
  pub owner : new.owner ≡ old.owner
  pub host : new.host ≡ old.host
  pub vif : new.vif ≡ old.vif
  pub by_admin : new.by_admin ≡ old.by_admin

-- an address that the port holds in the old subnet is one that it may hold in the new one: where
-- ports make their addresses of their MACs, a gateway that a router's interface holds stays
abbrev pub is_owned_still : SubnetRow → SubnetRow → PortRow → Fixed → Bool
is_owned_still old new p x =
    not (ident_eq x.subnet old.id)
    || (not (is_own_address p x.address old) || is_own_address p x.address new)

-- two subnets of one network that differ in name, description, gateway, pools and what DHCP tells
pub record IsReplacedSubnet (ports : List PortRow) (old new : SubnetRow) : Type 0 where
  pub id : new.id ≡ old.id
  pub project : new.project ≡ old.project
  pub network : new.network ≡ old.network
  pub prefix : new.prefix ≡ old.prefix
  pub own : Pass (λ p. list_all (is_owned_still old new p) p.fixed) ports

-- two groups that differ in name and description alone
pub record IsRenamedGroup (old new : GroupRow) : Type 0 where
  pub id : new.id ≡ old.id
  pub project : new.project ≡ old.project
  pub is_default : new.is_default ≡ old.is_default

-- two rules that differ in their description alone
pub record IsRedescribedRule (old new : RuleRow) : Type 0 where
  pub id : new.id ≡ old.id
  pub project : new.project ≡ old.project
  pub group : new.group ≡ old.group
  pub direction : new.direction ≡ old.direction
  pub ethertype : new.ethertype ≡ old.ethertype
  pub protocol : new.protocol ≡ old.protocol
  pub low : new.low ≡ old.low
  pub high : new.high ≡ old.high
  pub remote_prefix : new.remote_prefix ≡ old.remote_prefix
  pub remote_group : new.remote_group ≡ old.remote_group

-- two routers on one host that differ in name, description, state, gateway and routes
pub record IsReplacedRouter (old new : RouterRow) : Type 0 where
  pub id : new.id ≡ old.id
  pub project : new.project ≡ old.project
  pub host : new.host ≡ old.host

-- two floating addresses that differ in description and target alone
pub record IsReplacedFloating (old new : FloatingRow) : Type 0 where
  pub id : new.id ≡ old.id
  pub project : new.project ≡ old.project
  pub network : new.network ≡ old.network
  pub own_port : new.own_port ≡ old.own_port
  pub address : new.address ≡ old.address

-- a floating address that leads in order or nowhere, and alone
pub record IsRedirected (rows : RowLists) (place : ℕ) (new : FloatingRow) : Type 0 where
  pub leads : if_some (leads_to rows.ports rows.routers new) new.target ≡ true
  pub once : (network port : Ident) (x : ℕ)
      → count_by (stands_for network port x) (slice_set rows.floatings place new) ≤ 1

-- a policy of the same project and network in place of an old one, by which what was permitted to
-- rows that stand still is
pub record IsRetargetedPolicy (rows : RowLists) (place : ℕ) (old new : PolicyRow) : Type 0 where
  pub id : new.id ≡ old.id
  pub project : new.project ≡ old.project
  pub object : new.object ≡ old.object
  pub once : (p : PolicyRow) → count_by (same_policy p) (slice_set rows.policies place new) ≤ 1
  pub permitted : ArePermittedStill rows (slice_set rows.policies place new)

-- a gateway on the same network by the same port, whatever its address translation, or none as
-- before
abbrev pub gateways_agree : Option Gateway → Option Gateway → Bool
gateways_agree None None = true
gateways_agree (Some g) (Some h) = ident_eq g.network h.network && ident_eq g.port h.port
gateways_agree _ _ = false

-- a router with its gateway, whose routes are few and lead somewhere
pub record IsRerouted (rows : RowLists) (old new : RouterRow) : Type 0 where
  pub gateway : gateways_agree old.gateway new.gateway ≡ true
  pub few : nat_le (length new.routes) 30 ≡ true
  pub reached : list_all (is_reached rows.subnets rows.ports new) new.routes ≡ true
