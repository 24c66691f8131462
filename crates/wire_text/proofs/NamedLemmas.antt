-- Each variant is the one that has its name.
use Rattle.std.proofs.Common.{◌≡◌, Some, refl}
use Rattle.api_types.specs.declared.kind.Kind.{Kind}
use Rattle.api_types.specs.declared.kind.Kind.TheVariants.{Project, Network, Subnet, Port, Group, Rule, Router, Floating, Policy}
use Rattle.api_types.specs.declared.subnet.Ipv6Mode.{Ipv6Mode}
use Rattle.api_types.specs.declared.subnet.Ipv6Mode.TheVariants.{Slaac, Stateful, Stateless}
use Rattle.api_types.specs.declared.port.Vif.{Vif}
use Rattle.api_types.specs.declared.port.Vif.TheVariants.{Unbound, Failed, Ovs}
use Rattle.api_types.specs.declared.group.Direction.{Direction}
use Rattle.api_types.specs.declared.group.Direction.TheVariants.{Ingress, Egress}
use Rattle.api_types.specs.declared.group.Ethertype.{Ethertype}
use Rattle.api_types.specs.declared.group.Ethertype.TheVariants.{Ipv4, Ipv6}
use Rattle.api_types.specs.declared.policy.Action.{Action}
use Rattle.api_types.specs.declared.policy.Action.TheVariants.{Shared, External}
use Rattle.wire_text.specs.NamedVariants.{action_named, direction_named, ethertype_named, kind_named, mode_named, vif_named}
use Rattle.wire_text.specs.VariantNames.{action_name, direction_name, ethertype_name, kind_name, mode_name, vif_name}

pub kind_back : (x : Kind) → kind_named (kind_name x) ≡ Some x
kind_back Project = refl
kind_back Network = refl
kind_back Subnet = refl
kind_back Port = refl
kind_back Group = refl
kind_back Rule = refl
kind_back Router = refl
kind_back Floating = refl
kind_back Policy = refl

pub mode_back : (x : Ipv6Mode) → mode_named (mode_name x) ≡ Some x
mode_back Slaac = refl
mode_back Stateful = refl
mode_back Stateless = refl

pub vif_back : (x : Vif) → vif_named (vif_name x) ≡ Some x
vif_back Unbound = refl
vif_back Failed = refl
vif_back Ovs = refl

pub direction_back : (x : Direction) → direction_named (direction_name x) ≡ Some x
direction_back Ingress = refl
direction_back Egress = refl

pub ethertype_back : (x : Ethertype) → ethertype_named (ethertype_name x) ≡ Some x
ethertype_back Ipv4 = refl
ethertype_back Ipv6 = refl

pub action_back : (x : Action) → action_named (action_name x) ≡ Some x
action_back Shared = refl
action_back External = refl
