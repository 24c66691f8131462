-- Rows with fewer, and what has to hold of those that go.
use Rattle.std.specs.Prelude.{◌≡◌, List, Bool, true, false, Some}
use Rattle.std.specs.Prelude.{◌||◌, not, filter}
use Rattle.std.specs.List.{list_any}
use Rattle.api_types.specs.Ident.{Ident}
use Rattle.api_types.specs.Table.{ident_eq}
use Rattle.api_types.specs.RowLists.{RowLists}
use Rattle.api_types.specs.Lists.{Each, is_some_so}
use Rattle.api_types.specs.Owners.{is_interface, is_gateway, is_dhcp, is_port_of, holds_in}
use Rattle.api_types.specs.Sharing.{is_external_to}
use Rattle.api_types.specs.Consistent.Access.{may_be_there}
use Rattle.api_types.specs.Consistent.Named.{is_own_port}
use Rattle.api_types.specs.declared.subnet.SubnetRow.{SubnetRow}
use Rattle.api_types.specs.declared.port.PortRow.{PortRow}
use Rattle.api_types.specs.declared.group.RuleRow.{RuleRow}
use Rattle.api_types.specs.declared.router.RouterRow.{RouterRow}
use Rattle.api_types.specs.declared.router.Gateway.{Gateway}
use Rattle.api_types.specs.declared.floating.FloatingRow.{FloatingRow}
use Rattle.api_types.specs.declared.floating.Target.{Target}
use Rattle.api_types.specs.declared.policy.PolicyRow.{PolicyRow}

-- the rows without the ports, the rules, .. that a test doesn't keep
abbrev pub with_ports_kept : (PortRow → Bool) → RowLists → RowLists
with_ports_kept keep rows = record rows { ports = filter keep rows.ports }

abbrev pub with_subnets_kept : (SubnetRow → Bool) → RowLists → RowLists
with_subnets_kept keep rows = record rows { subnets = filter keep rows.subnets }

abbrev pub with_routers_kept : (RouterRow → Bool) → RowLists → RowLists
with_routers_kept keep rows = record rows { routers = filter keep rows.routers }

abbrev pub with_floatings_kept : (FloatingRow → Bool) → RowLists → RowLists
with_floatings_kept keep rows = record rows { floatings = filter keep rows.floatings }

abbrev pub with_policies_kept : (PolicyRow → Bool) → RowLists → RowLists
with_policies_kept keep rows = record rows { policies = filter keep rows.policies }

abbrev pub with_rules_kept : (RuleRow → Bool) → RowLists → RowLists
with_rules_kept keep rows = record rows { rules = filter keep rows.rules }

-- a port that nothing needs
pub record IsOfNoUse (floatings : List FloatingRow) (p : PortRow) : Type 0 where
  pub no_interface : is_interface p.owner ≡ false
  pub no_gateway : is_gateway p.owner ≡ false
  pub no_dhcp : is_dhcp p.owner ≡ false
  pub no_own_port : is_own_port floatings p.id ≡ false
  pub no_target : list_any (λ f. is_some_so (λ (t : Target). ident_eq p.id t.port) f.target)
      floatings ≡ false

-- the rows without a network, its subnets, its policies and the ports on it
abbrev pub without_network : RowLists → Ident → RowLists
without_network rows i = record rows {
  networks = filter (λ n. not (ident_eq i n.id)) rows.networks;
  subnets = filter (λ s. not (ident_eq i s.network)) rows.subnets;
  ports = filter (λ p. not (ident_eq i p.network)) rows.ports;
  policies = filter (λ p. not (ident_eq i p.object)) rows.policies;
}

-- no port but a DHCP port is on the network
abbrev pub IsUnused : RowLists → Ident → Type 0
IsUnused rows i = Each (λ p. ident_eq i p.network ≡ true → is_dhcp p.owner ≡ true) rows.ports

-- the rows without a group, its rules, and the rules that name it as remote group
abbrev pub names_group : Ident → RuleRow → Bool
names_group i r = ident_eq i r.group || is_some_so (ident_eq i) r.remote_group

abbrev pub without_group : RowLists → Ident → RowLists
without_group rows i = record rows {
  groups = filter (λ g. not (ident_eq i g.id)) rows.groups;
  rules = filter (λ r. not (names_group i r)) rows.rules;
}

-- the group is no default group, and no port names it
pub record IsUnusedGroup (rows : RowLists) (i : Ident) : Type 0 where
  pub plain : Each (λ g. ident_eq i g.id ≡ true → g.is_default ≡ false) rows.groups
  pub unnamed : Each (λ p. list_any (ident_eq i) p.groups ≡ false) rows.ports

-- a subnet that is not leased by DHCP, and in which no port holds an address
pub record IsUnusedSubnet (ports : List PortRow) (s : SubnetRow) : Type 0 where
  pub plain : s.dhcp ≡ false
  pub unheld : Each (λ p. holds_in s.id p ≡ false) ports

-- a router that no port names, and by which no floating address leads
pub record IsUnusedRouter (ports : List PortRow) (floatings : List FloatingRow) (r : RouterRow)
    : Type 0 where
  pub unnamed : Each (λ p. is_port_of r p ≡ false) ports
  pub unled : list_any (λ f. is_some_so (λ (t : Target). ident_eq r.id t.router) f.target)
      floatings ≡ false

-- by other policies, ports may still be on their networks, and what was permitted to the gateways
-- and the floating addresses that stand still is
pub record ArePermittedStill (rows : RowLists) (policies : List PolicyRow) : Type 0 where
  pub ports : Each (λ p.
      may_be_there rows.networks rows.policies p ≡ true
      → may_be_there rows.networks policies p ≡ true) rows.ports
  pub gateways : Each (λ r.
      (g : Gateway) → r.gateway ≡ Some g → is_external_to rows.policies g.network r.project ≡ true
      → is_external_to policies g.network r.project ≡ true) rows.routers
  pub addresses : Each (λ f.
      is_external_to rows.policies f.network f.project ≡ true
      → is_external_to policies f.network f.project ≡ true) rows.floatings
