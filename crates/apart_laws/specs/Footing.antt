-- The part of the rows on which a tenant's answers may depend.
use Rattle.api_policy.specs.Served.{HeldPort, held_port}
use Rattle.std.specs.Prelude.{ℕ, ◌+◌, ◌-◌, ◌&&◌, ◌||◌, Bool, true, false, List, [], Option, None, Some, filter, find, is_some, length, map, nat_le, option_map}
use Rattle.std.specs.List.{list_any}
use Rattle.std.specs.Str.{bytes_eq}
use Rattle.net_addr.specs.Words.{MacAddress, Text}
use Rattle.net_addr.specs.Addresses.{addr_eq}
use Rattle.net_addr.specs.declared.address.Addr.{Addr}
use Rattle.api_types.specs.Consistent.Carried.{is_bound}
use Rattle.api_types.specs.Consistent.HeldOnce.{has_mac}
use Rattle.api_types.specs.Consistent.Segments.{most_networks}
use Rattle.api_types.specs.Ident.{Ident}
use Rattle.api_types.specs.Lists.{stands, stands_so}
use Rattle.api_types.specs.Owners.{is_port_of}
use Rattle.api_types.specs.Registration.{is_named}
use Rattle.api_types.specs.RowLists.{RowLists}
use Rattle.api_types.specs.Sharing.{is_external_to, is_shared_with}
use Rattle.api_types.specs.Table.{ident_eq, row_of}
use Rattle.api_types.specs.declared.call.Caller.{Caller}
use Rattle.api_types.specs.declared.floating.FloatingRow.{FloatingRow}
use Rattle.api_types.specs.declared.group.GroupRow.{GroupRow}
use Rattle.api_types.specs.declared.group.RuleRow.{RuleRow}
use Rattle.api_types.specs.declared.network.NetworkRow.{NetworkRow}
use Rattle.api_types.specs.declared.network.Segment.TheVariants.{Local}
use Rattle.api_types.specs.declared.policy.Action.TheVariants.{External, Shared}
use Rattle.api_types.specs.declared.policy.PolicyRow.{PolicyRow}
use Rattle.api_types.specs.declared.port.Fixed.{Fixed}
use Rattle.api_types.specs.declared.port.PortRow.{PortRow}
use Rattle.api_types.specs.declared.port.Vif.TheVariants.{Unbound}
use Rattle.api_types.specs.declared.project.ProjectRow.{ProjectRow}
use Rattle.api_types.specs.declared.router.RouterRow.{RouterRow}
use Rattle.api_types.specs.declared.subnet.SubnetRow.{SubnetRow}
use Rattle.net_settings.specs.Settings.{SettingsParts}
use Rattle.api_policy.specs.Visibility.{seen_networks, seen_ports, seen_subnets}
use Rattle.api_policy.specs.Networks.{is_open}
use Rattle.api_ml2.specs.Numbers.{least_free}
use Rattle.call_parts.specs.State.{State, is_last}

-- a network without its segment, which tenants never learn
abbrev pub blank : NetworkRow → NetworkRow
blank n = record n { segment = Local }

-- a port without its host and binding, and a router without its host, which tenants never learn
abbrev pub blank_port : PortRow → PortRow
blank_port p = record p { host = []; vif = Unbound }

abbrev pub blank_router : RouterRow → RouterRow
blank_router r = record r { host = None }

-- the rows of a kind that the project owns
abbrev pub owned : {R : Type 0} → (R → Text) → Text → List R → List R
owned owner_of project rows = filter (λ r. bytes_eq (owner_of r) project) rows

-- the port is of one of the project's routers
abbrev pub is_of_router : List RouterRow → Text → PortRow → Bool
is_of_router routers project p =
    list_any (λ (r : RouterRow). bytes_eq r.project project && is_port_of r p) routers

-- the project has to do with the port: it owns it or its router
abbrev pub is_close : RowLists → Text → PortRow → Bool
is_close rows project p = bytes_eq p.project project || is_of_router rows.routers project p

-- what may be told of a network that is near; a set is its test
pub record Near : Type 0 where
  pub up : Option Bool
  pub subnets : List SubnetRow
  pub addresses : Addr → Bool
  pub macs : MacAddress → Bool
  pub shared : Bool
  pub external : Bool
  pub shared_to_all : Bool
  pub external_to_all : Bool

abbrev pub near_of : RowLists → Text → Ident → Near
near_of rows project i = record {
  up = option_map (λ (n : NetworkRow). n.up) (row_of (λ n. n.id) i rows.networks);
  subnets = filter (λ s. ident_eq i s.network) rows.subnets;
  addresses = λ x.
      list_any (λ p. ident_eq i p.network && list_any (λ (f : Fixed). addr_eq f.address x) p.fixed)
      rows.ports;
  macs = λ m. list_any (has_mac i m) rows.ports;
  shared = is_shared_with rows.policies i project;
  external = is_external_to rows.policies i project;
  shared_to_all = is_open rows.policies i Shared;
  external_to_all = is_open rows.policies i External;
}

-- a network is near where the caller sees it, or a port stands on it that the project has to do
-- with
abbrev pub is_near : RowLists → Caller → Ident → Bool
is_near rows caller i =
    stands (λ (n : NetworkRow). n.id) i (seen_networks rows caller)
    || list_any (λ p. ident_eq i p.network && is_close rows caller.project p) rows.ports

-- what may be told of a network that the project holds: it owns the network, or a policy on it
pub record Held : Type 0 where
  pub project : Option Text
  pub policies : List PolicyRow
  pub ports : List HeldPort

abbrev pub held_of : RowLists → Ident → Held
held_of rows i = record {
  project = option_map (λ (n : NetworkRow). n.project) (row_of (λ n. n.id) i rows.networks);
  policies = filter (λ l. ident_eq i l.object) rows.policies;
  ports = map (held_port rows) (filter (λ p. ident_eq i p.network) rows.ports);
}

abbrev pub is_held_by : RowLists → Text → Ident → Bool
is_held_by rows project i =
    stands_so (λ (n : NetworkRow). n.id) i (λ n. bytes_eq n.project project) rows.networks
    || list_any (λ (l : PolicyRow). ident_eq i l.object && bytes_eq l.project project)
    rows.policies

-- told of some ids alone
abbrev pub guard : {X : Type 0} → Bool → X → Option X
guard true x = Some x
guard false x = None

-- what a project draws from: its ordinal and count, or the number of projects
pub data Drawer : Type 0 where
  Known : ℕ → ℕ → Drawer
  New : ℕ → Drawer

abbrev pub drawer_at : List ProjectRow → Option ProjectRow → Drawer
drawer_at projects None = New (length projects)
drawer_at projects (Some p) = Known p.ordinal p.count

abbrev pub drawer_of : List ProjectRow → Text → Drawer
drawer_of projects name = drawer_at projects (find (is_named name) projects)

pub record Footing : Type 0 where
  pub networks : List NetworkRow
  pub subnets : List SubnetRow
  pub ports : List PortRow
  -- which of these are bound: a bound one is ACTIVE while it and its network are up
  pub bound : Ident → Bool
  pub groups : List GroupRow
  pub rules : List RuleRow
  pub routers : List RouterRow
  pub floatings : List FloatingRow
  pub policies : List PolicyRow
  -- the ports of its routers, also where it doesn't see them
  pub served_ports : List PortRow
  pub near : Ident → Option Near
  pub held : Ident → Option Held
  pub drawer : Drawer
  pub has_number : Bool
  pub is_full : Bool
  pub is_last : Bool

abbrev pub footing : SettingsParts → State → Caller → Footing
footing settings state caller = record {
  networks = map blank (seen_networks state.rows caller);
  subnets = seen_subnets state.rows caller;
  ports = map blank_port (seen_ports state.rows caller);
  bound = λ i. stands_so (λ p. p.id) i (λ p. is_bound p.vif) (seen_ports state.rows caller);
  groups = owned (λ r. r.project) caller.project state.rows.groups;
  rules = owned (λ r. r.project) caller.project state.rows.rules;
  routers = map blank_router (owned (λ r. r.project) caller.project state.rows.routers);
  floatings = owned (λ r. r.project) caller.project state.rows.floatings;
  policies = owned (λ r. r.project) caller.project state.rows.policies;
  served_ports = map blank_port
      (filter (is_of_router state.rows.routers caller.project) state.rows.ports);
  near = λ i. guard (is_near state.rows caller i) (near_of state.rows caller.project i);
  held = λ i. guard (is_held_by state.rows caller.project i) (held_of state.rows i);
  drawer = drawer_of state.rows.projects caller.project;
  has_number = is_some (least_free state.rows.networks settings.vxlan_first
      (settings.vxlan_last + 1 - settings.vxlan_first));
  is_full = nat_le most_networks (length state.rows.networks);
  is_last = is_last state;
}
