-- Rows with one more, last in the list of its kind, and what has to hold of it.
use Rattle.std.specs.Prelude.{◌≡◌, ◌+◌, ◌<◌, ◌≤◌, ◌++◌, ◌∷◌, [], List, None, true, false, length, sum_by}
use Rattle.std.specs.Prelude.{◌&&◌, ◌||◌, count_by}
use Rattle.std.specs.List.{list_all}
use Rattle.net_addr.specs.declared.address.Addr.{Addr}
use Rattle.api_types.specs.RowLists.{RowLists}
use Rattle.api_types.specs.Lists.{Each, if_some, is_empty}
use Rattle.api_types.specs.Owners.{is_interface, is_gateway, is_dhcp, is_port_of}
use Rattle.api_types.specs.Consistent.Numbered.{is_drawn, times_in}
use Rattle.api_types.specs.Consistent.Named.{is_network, is_registered, names_subnet}
use Rattle.api_types.specs.Consistent.InForm.{is_segment, is_network_of, is_group_of, is_subnet_form, is_port_form}
use Rattle.api_types.specs.Consistent.HeldOnce.{has_mac, holds_times}
use Rattle.api_types.specs.Consistent.Hosts.{is_host_in}
use Rattle.api_types.specs.Consistent.Disjoint.{subnets_clash}
use Rattle.api_types.specs.Consistent.Segments.{same_segment, most_networks}
use Rattle.api_types.specs.Consistent.Permitted.{same_policy}
use Rattle.api_types.specs.Consistent.Groups.{same_rule}
use Rattle.api_types.specs.Consistent.Access.{may_be_there}
use Rattle.api_types.specs.declared.network.NetworkRow.{NetworkRow}
use Rattle.api_types.specs.declared.network.Segment.{Segment}
use Rattle.api_types.specs.declared.subnet.SubnetRow.{SubnetRow}
use Rattle.api_types.specs.declared.port.PortRow.{PortRow}
use Rattle.api_types.specs.declared.group.GroupRow.{GroupRow}
use Rattle.api_types.specs.declared.group.RuleRow.{RuleRow}
use Rattle.api_types.specs.declared.router.RouterRow.{RouterRow}
use Rattle.api_types.specs.declared.floating.FloatingRow.{FloatingRow}
use Rattle.api_types.specs.declared.policy.PolicyRow.{PolicyRow}

abbrev pub with_network : RowLists → NetworkRow → RowLists
with_network rows r = record rows { networks = rows.networks ++ r ∷ [] }

abbrev pub with_subnet : RowLists → SubnetRow → RowLists
with_subnet rows r = record rows { subnets = rows.subnets ++ r ∷ [] }

abbrev pub with_port : RowLists → PortRow → RowLists
with_port rows r = record rows { ports = rows.ports ++ r ∷ [] }

abbrev pub with_group : RowLists → GroupRow → RowLists
with_group rows r = record rows { groups = rows.groups ++ r ∷ [] }

abbrev pub with_rule : RowLists → RuleRow → RowLists
with_rule rows r = record rows { rules = rows.rules ++ r ∷ [] }

abbrev pub with_router : RowLists → RouterRow → RowLists
with_router rows r = record rows { routers = rows.routers ++ r ∷ [] }

abbrev pub with_floating : RowLists → FloatingRow → RowLists
with_floating rows r = record rows { floatings = rows.floatings ++ r ∷ [] }

abbrev pub with_policy : RowLists → PolicyRow → RowLists
with_policy rows r = record rows { policies = rows.policies ++ r ∷ [] }

-- a segment that no network has
abbrev pub IsAlone : List NetworkRow → Segment → Type 0
IsAlone networks own =
    (segment : Segment) → same_segment segment own ≡ true
    → count_by (λ n. same_segment segment n.segment) networks ≡ 0

pub record IsNewNetwork (rows : RowLists) (n : NetworkRow) : Type 0 where
  pub fresh : times_in rows n.id ≡ 0
  pub drawn : is_drawn rows.projects n.id ≡ true
  pub project : is_registered rows.projects n.project ≡ true
  pub segment : is_segment n.segment ≡ true
  pub alone : IsAlone rows.networks n.segment
  pub few : length rows.networks < most_networks

pub record IsNewRule (rows : RowLists) (r : RuleRow) : Type 0 where
  pub fresh : times_in rows r.id ≡ 0
  pub drawn : is_drawn rows.projects r.id ≡ true
  pub project : is_registered rows.projects r.project ≡ true
  pub group : is_group_of rows.groups r.project r.group ≡ true
  pub remote : if_some (is_group_of rows.groups r.project) r.remote_group ≡ true
  pub unlike : Each (λ q. (same_rule q r ≡ false) × (same_rule r q ≡ false)) rows.rules

-- a port of a project that is no router's and no DHCP port
pub record IsNewPort (rows : RowLists) (p : PortRow) : Type 0 where
  pub fresh : times_in rows p.id ≡ 0
  pub drawn : is_drawn rows.projects p.id ≡ true
  pub network : is_network rows.networks p.network ≡ true
  pub project : is_registered rows.projects p.project ≡ true
  pub no_interface : is_interface p.owner ≡ false
  pub no_gateway : is_gateway p.owner ≡ false
  pub no_dhcp : is_dhcp p.owner ≡ false
  pub form : is_port_form p ≡ true
  pub mac : count_by (has_mac p.network p.mac) rows.ports ≡ 0
  pub addresses : (x : Addr)
      → sum_by (holds_times p.network x) rows.ports + holds_times p.network x p ≤ 1
  pub subnets : list_all (names_subnet rows.subnets p) p.fixed ≡ true
  pub hosts : list_all (is_host_in rows.subnets p) p.fixed ≡ true
  pub groups : list_all (is_group_of rows.groups p.project) p.groups ≡ true
  pub bare : p.secured || (is_empty p.groups && is_empty p.pairs) ≡ true
  pub allowed : may_be_there rows.networks rows.policies p ≡ true

-- a group that is no default group
pub record IsNewGroup (rows : RowLists) (g : GroupRow) : Type 0 where
  pub fresh : times_in rows g.id ≡ 0
  pub drawn : is_drawn rows.projects g.id ≡ true
  pub project : is_registered rows.projects g.project ≡ true
  pub plain : g.is_default ≡ false

-- a subnet of its network's project that is not leased by DHCP
pub record IsNewSubnet (rows : RowLists) (s : SubnetRow) : Type 0 where
  pub fresh : times_in rows s.id ≡ 0
  pub drawn : is_drawn rows.projects s.id ≡ true
  pub network : is_network rows.networks s.network ≡ true
  pub project : is_registered rows.projects s.project ≡ true
  pub owner : is_network_of rows.networks s.project s.network ≡ true
  pub form : is_subnet_form s ≡ true
  pub plain : s.dhcp ≡ false
  pub apart : Each (λ t. (subnets_clash t s ≡ false) × (subnets_clash s t ≡ false)) rows.subnets

-- a router without gateway and routes
pub record IsNewRouter (rows : RowLists) (r : RouterRow) : Type 0 where
  pub fresh : times_in rows r.id ≡ 0
  pub drawn : is_drawn rows.projects r.id ≡ true
  pub project : is_registered rows.projects r.project ≡ true
  pub no_gateway : r.gateway ≡ None
  pub no_routes : r.routes ≡ []
  pub unnamed : Each (λ p. is_port_of r p ≡ false) rows.ports

-- a policy that doesn't stand yet
pub record IsNewPolicy (rows : RowLists) (l : PolicyRow) : Type 0 where
  pub fresh : times_in rows l.id ≡ 0
  pub drawn : is_drawn rows.projects l.id ≡ true
  pub network : is_network rows.networks l.object ≡ true
  pub project : is_registered rows.projects l.project ≡ true
  pub alone : (p : PolicyRow) → same_policy p l ≡ true → count_by (same_policy p) rows.policies ≡ 0
