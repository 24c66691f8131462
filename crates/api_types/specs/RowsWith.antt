-- The row with an id, of each kind.
use Rattle.std.specs.Prelude.{Option}
use Rattle.api_types.specs.Ident.{Ident}
use Rattle.api_types.specs.RowLists.{RowLists}
use Rattle.api_types.specs.Rows.{project_id}
use Rattle.api_types.specs.Table.{row_of}
use Rattle.api_types.specs.declared.floating.FloatingRow.{FloatingRow}
use Rattle.api_types.specs.declared.group.GroupRow.{GroupRow}
use Rattle.api_types.specs.declared.group.RuleRow.{RuleRow}
use Rattle.api_types.specs.declared.network.NetworkRow.{NetworkRow}
use Rattle.api_types.specs.declared.policy.PolicyRow.{PolicyRow}
use Rattle.api_types.specs.declared.port.PortRow.{PortRow}
use Rattle.api_types.specs.declared.project.ProjectRow.{ProjectRow}
use Rattle.api_types.specs.declared.router.RouterRow.{RouterRow}
use Rattle.api_types.specs.declared.subnet.SubnetRow.{SubnetRow}

abbrev pub project_with : RowLists → Ident → Option ProjectRow
project_with rows i = row_of project_id i rows.projects

abbrev pub network_with : RowLists → Ident → Option NetworkRow
network_with rows i = row_of (λ (n : NetworkRow). n.id) i rows.networks

abbrev pub subnet_with : RowLists → Ident → Option SubnetRow
subnet_with rows i = row_of (λ (s : SubnetRow). s.id) i rows.subnets

abbrev pub port_with : RowLists → Ident → Option PortRow
port_with rows i = row_of (λ (p : PortRow). p.id) i rows.ports

abbrev pub group_with : RowLists → Ident → Option GroupRow
group_with rows i = row_of (λ (g : GroupRow). g.id) i rows.groups

abbrev pub rule_with : RowLists → Ident → Option RuleRow
rule_with rows i = row_of (λ (r : RuleRow). r.id) i rows.rules

abbrev pub router_with : RowLists → Ident → Option RouterRow
router_with rows i = row_of (λ (r : RouterRow). r.id) i rows.routers

abbrev pub floating_with : RowLists → Ident → Option FloatingRow
floating_with rows i = row_of (λ (f : FloatingRow). f.id) i rows.floatings

abbrev pub policy_with : RowLists → Ident → Option PolicyRow
policy_with rows i = row_of (λ (p : PolicyRow). p.id) i rows.policies
