-- The words for kinds and for the parts of rows: the variants' names.
use Rattle.std.specs.Prelude.{codes}
use Rattle.net_addr.specs.Words.{Text}
use Rattle.api_types.specs.declared.kind.Kind.{Kind}
use Rattle.api_types.specs.declared.kind.Kind.TheVariants.{Project, Network, Subnet, Port, Group, Rule, Router, Floating, Policy}
use Rattle.api_types.specs.declared.subnet.Ipv6Mode.{Ipv6Mode}
use Rattle.api_types.specs.declared.subnet.Ipv6Mode.TheVariants.{Slaac, Stateful, Stateless}
use Rattle.api_types.specs.declared.port.Vif.{Vif}
use Rattle.api_types.specs.declared.port.Vif.TheVariants.{Unbound, Failed, Ovs}
use Rattle.api_types.specs.declared.group.Direction.{Direction}
use Rattle.api_types.specs.declared.group.Direction.TheVariants.{Ingress, Egress}
use Rattle.api_types.specs.declared.group.Ethertype.{Ethertype}
use Rattle.api_types.specs.declared.group.Ethertype.TheVariants.{Ipv4, Ipv6}
use Rattle.api_types.specs.declared.policy.Action.{Action}
use Rattle.api_types.specs.declared.policy.Action.TheVariants.{Shared, External}

abbrev pub kind_name : Kind → Text
kind_name Project = codes "Project"
kind_name Network = codes "Network"
kind_name Subnet = codes "Subnet"
kind_name Port = codes "Port"
kind_name Group = codes "Group"
kind_name Rule = codes "Rule"
kind_name Router = codes "Router"
kind_name Floating = codes "Floating"
kind_name Policy = codes "Policy"

abbrev pub mode_name : Ipv6Mode → Text
mode_name Slaac = codes "Slaac"
mode_name Stateful = codes "Stateful"
mode_name Stateless = codes "Stateless"

abbrev pub vif_name : Vif → Text
vif_name Unbound = codes "Unbound"
vif_name Failed = codes "Failed"
vif_name Ovs = codes "Ovs"

abbrev pub direction_name : Direction → Text
direction_name Ingress = codes "Ingress"
direction_name Egress = codes "Egress"

abbrev pub ethertype_name : Ethertype → Text
ethertype_name Ipv4 = codes "Ipv4"
ethertype_name Ipv6 = codes "Ipv6"

abbrev pub action_name : Action → Text
action_name Shared = codes "Shared"
action_name External = codes "External"
