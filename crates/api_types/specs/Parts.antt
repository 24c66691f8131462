-- A row of one kind, where a row of any kind is one.
use Rattle.std.specs.Prelude.{Option, Some, None}
use Rattle.api_types.specs.declared.kind.Row.{Row}
use Rattle.api_types.specs.declared.kind.Row.TheVariants.{Project, Network, Subnet, Port, Group, Rule, Router, Floating, Policy}
use Rattle.api_types.specs.declared.project.ProjectRow.{ProjectRow}
use Rattle.api_types.specs.declared.network.NetworkRow.{NetworkRow}
use Rattle.api_types.specs.declared.subnet.SubnetRow.{SubnetRow}
use Rattle.api_types.specs.declared.port.PortRow.{PortRow}
use Rattle.api_types.specs.declared.group.GroupRow.{GroupRow}
use Rattle.api_types.specs.declared.group.RuleRow.{RuleRow}
use Rattle.api_types.specs.declared.router.RouterRow.{RouterRow}
use Rattle.api_types.specs.declared.floating.FloatingRow.{FloatingRow}
use Rattle.api_types.specs.declared.policy.PolicyRow.{PolicyRow}

abbrev pub project_of : Row → Option ProjectRow
project_of (Project row) = Some row
project_of _ = None

abbrev pub network_of : Row → Option NetworkRow
network_of (Network row) = Some row
network_of _ = None

abbrev pub subnet_of : Row → Option SubnetRow
subnet_of (Subnet row) = Some row
subnet_of _ = None

abbrev pub port_of : Row → Option PortRow
port_of (Port row) = Some row
port_of _ = None

abbrev pub group_of : Row → Option GroupRow
group_of (Group row) = Some row
group_of _ = None

abbrev pub rule_of : Row → Option RuleRow
rule_of (Rule row) = Some row
rule_of _ = None

abbrev pub router_of : Row → Option RouterRow
router_of (Router row) = Some row
router_of _ = None

abbrev pub floating_of : Row → Option FloatingRow
floating_of (Floating row) = Some row
floating_of _ = None

abbrev pub policy_of : Row → Option PolicyRow
policy_of (Policy row) = Some row
policy_of _ = None
