-- A footing that has more: the segments of networks, but for vxlan numbers, the hosts and bindings
-- of ports, the hosts of routers, and the own ports of floating addresses.
use Rattle.std.specs.Prelude.{◌+◌, ◌-◌, ◌&&◌, ◌||◌, Bool, List, Option, filter, is_some, length, map, nat_le, option_map}
use Rattle.std.specs.List.{list_any}
use Rattle.std.specs.Str.{bytes_eq}
use Rattle.net_addr.specs.Words.{Text}
use Rattle.api_types.specs.Consistent.Segments.{most_networks}
use Rattle.api_types.specs.Ident.{Ident}
use Rattle.api_types.specs.Lists.{stands}
use Rattle.api_types.specs.RowLists.{RowLists}
use Rattle.api_types.specs.Table.{ident_eq, row_of}
use Rattle.api_types.specs.declared.call.Caller.{Caller}
use Rattle.api_types.specs.declared.floating.FloatingRow.{FloatingRow}
use Rattle.api_types.specs.declared.group.GroupRow.{GroupRow}
use Rattle.api_types.specs.declared.group.RuleRow.{RuleRow}
use Rattle.api_types.specs.declared.network.NetworkRow.{NetworkRow}
use Rattle.api_types.specs.declared.network.Segment.{Segment}
use Rattle.api_types.specs.declared.network.Segment.TheVariants.{Local, Flat, Vlan, Vxlan}
use Rattle.api_types.specs.declared.policy.PolicyRow.{PolicyRow}
use Rattle.api_types.specs.declared.port.PortRow.{PortRow}
use Rattle.api_types.specs.declared.router.RouterRow.{RouterRow}
use Rattle.api_types.specs.declared.subnet.SubnetRow.{SubnetRow}
use Rattle.net_settings.specs.Settings.{SettingsParts}
use Rattle.api_policy.specs.Visibility.{seen_networks, seen_ports, seen_subnets}
use Rattle.api_ml2.specs.Numbers.{least_free}
use Rattle.call_parts.specs.State.{State, is_last}
use Rattle.apart_laws.specs.Footing.{Drawer, Held, Near, drawer_of, guard, held_of, is_close, is_held_by, is_of_router, near_of, owned}

-- a network without its vxlan number
abbrev pub unnumbered : Segment → Segment
unnumbered Local = Local
unnumbered (Flat physical) = Flat physical
unnumbered (Vlan physical tag) = Vlan physical tag
unnumbered (Vxlan number) = Vxlan 0

abbrev pub without_number : NetworkRow → NetworkRow
without_number n = record n { segment = unnumbered n.segment }

-- the port holds one of the project's floating addresses
abbrev pub is_of_floating : List FloatingRow → Text → PortRow → Bool
is_of_floating floatings project p =
    list_any (λ (f : FloatingRow). bytes_eq f.project project && ident_eq f.own_port p.id)
    floatings

-- the project has to do with the port: it owns it, its router or its floating address
abbrev pub is_closer : RowLists → Text → PortRow → Bool
is_closer rows project p = is_close rows project p || is_of_floating rows.floatings project p

-- what may be told of a network that is near, and its segment
pub record NearSegment : Type 0 where
  pub segment : Option Segment
  pub near : Near

abbrev pub near_segment_of : RowLists → Text → Ident → NearSegment
near_segment_of rows project i = record {
  segment = option_map (λ (n : NetworkRow). unnumbered n.segment)
      (row_of (λ n. n.id) i rows.networks);
  near = near_of rows project i;
}

-- a network is nearer where the caller sees it, or a port stands on it that the project has to do
-- with
abbrev pub is_nearer : RowLists → Caller → Ident → Bool
is_nearer rows caller i =
    stands (λ (n : NetworkRow). n.id) i (seen_networks rows caller)
    || list_any (λ p. ident_eq i p.network && is_closer rows caller.project p) rows.ports

pub record WiderFooting : Type 0 where
  pub networks : List NetworkRow
  pub subnets : List SubnetRow
  pub ports : List PortRow
  pub groups : List GroupRow
  pub rules : List RuleRow
  pub routers : List RouterRow
  pub floatings : List FloatingRow
  pub policies : List PolicyRow
  -- the ports of its routers and of its floating addresses, also where it doesn't see them
  pub served_ports : List PortRow
  pub near : Ident → Option NearSegment
  pub held : Ident → Option Held
  pub drawer : Drawer
  pub has_number : Bool
  pub is_full : Bool
  pub is_last : Bool

abbrev pub wider_footing : SettingsParts → State → Caller → WiderFooting
wider_footing settings state caller = record {
  networks = map without_number (seen_networks state.rows caller);
  subnets = seen_subnets state.rows caller;
  ports = seen_ports state.rows caller;
  groups = owned (λ r. r.project) caller.project state.rows.groups;
  rules = owned (λ r. r.project) caller.project state.rows.rules;
  routers = owned (λ r. r.project) caller.project state.rows.routers;
  floatings = owned (λ r. r.project) caller.project state.rows.floatings;
  policies = owned (λ r. r.project) caller.project state.rows.policies;
  served_ports = filter (λ p.
      is_of_router state.rows.routers caller.project p
      || is_of_floating state.rows.floatings caller.project p) state.rows.ports;
  near = λ i. guard (is_nearer state.rows caller i) (near_segment_of state.rows caller.project i);
  held = λ i. guard (is_held_by state.rows caller.project i) (held_of state.rows i);
  drawer = drawer_of state.rows.projects caller.project;
  has_number = is_some (least_free state.rows.networks settings.vxlan_first
      (settings.vxlan_last + 1 - settings.vxlan_first));
  is_full = nat_le most_networks (length state.rows.networks);
  is_last = is_last state;
}
