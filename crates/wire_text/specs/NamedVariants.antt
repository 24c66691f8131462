-- The variants that have a name.
use Rattle.std.specs.Prelude.{Option, Some, None, codes, if◌then◌else◌}
use Rattle.std.specs.Str.{bytes_eq}
use Rattle.net_addr.specs.Words.{Text}
use Rattle.api_types.specs.declared.kind.Kind.{Kind}
use Rattle.api_types.specs.declared.kind.Kind.TheVariants.{Project, Network, Subnet, Port, Group, Rule, Router, Floating, Policy}
use Rattle.api_types.specs.declared.subnet.Ipv6Mode.{Ipv6Mode}
use Rattle.api_types.specs.declared.subnet.Ipv6Mode.TheVariants.{Slaac, Stateful, Stateless}
use Rattle.api_types.specs.declared.port.Vif.{Vif}
use Rattle.api_types.specs.declared.port.Vif.TheVariants.{Unbound, Failed, Ovs}
use Rattle.api_types.specs.declared.group.Direction.{Direction}
use Rattle.api_types.specs.declared.group.Direction.TheVariants.{Ingress, Egress}
use Rattle.api_types.specs.declared.group.Ethertype.{Ethertype}
use Rattle.api_types.specs.declared.group.Ethertype.TheVariants.{Ipv4, Ipv6}
use Rattle.api_types.specs.declared.policy.Action.{Action}
use Rattle.api_types.specs.declared.policy.Action.TheVariants.{Shared, External}

abbrev pub kind_named : Text → Option Kind
kind_named name =
    if bytes_eq name (codes "Project") then Some Project
    else if bytes_eq name (codes "Network") then Some Network
    else if bytes_eq name (codes "Subnet") then Some Subnet
    else if bytes_eq name (codes "Port") then Some Port
    else if bytes_eq name (codes "Group") then Some Group
    else if bytes_eq name (codes "Rule") then Some Rule
    else if bytes_eq name (codes "Router") then Some Router
    else if bytes_eq name (codes "Floating") then Some Floating
    else if bytes_eq name (codes "Policy") then Some Policy
    else None

abbrev pub mode_named : Text → Option Ipv6Mode
mode_named name =
    if bytes_eq name (codes "Slaac") then Some Slaac
    else if bytes_eq name (codes "Stateful") then Some Stateful
    else if bytes_eq name (codes "Stateless") then Some Stateless
    else None

abbrev pub vif_named : Text → Option Vif
vif_named name =
    if bytes_eq name (codes "Unbound") then Some Unbound
    else if bytes_eq name (codes "Failed") then Some Failed
    else if bytes_eq name (codes "Ovs") then Some Ovs
    else None

abbrev pub direction_named : Text → Option Direction
direction_named name =
    if bytes_eq name (codes "Ingress") then Some Ingress
    else if bytes_eq name (codes "Egress") then Some Egress
    else None

abbrev pub ethertype_named : Text → Option Ethertype
ethertype_named name =
    if bytes_eq name (codes "Ipv4") then Some Ipv4
    else if bytes_eq name (codes "Ipv6") then Some Ipv6
    else None

abbrev pub action_named : Text → Option Action
action_named name =
    if bytes_eq name (codes "Shared") then Some Shared
    else if bytes_eq name (codes "External") then Some External
    else None
