-- What consistency asks of the rows that a row names: they are there, and its project is registered
-- (Networking API reference v2.0, the refusals of each call).
use Rattle.std.specs.Prelude.{◌&&◌, Bool}
use Rattle.std.specs.List.{list_all}
use Rattle.api_types.specs.Lists.{if_some}
use Rattle.api_types.specs.RowLists.{RowLists}
use Rattle.api_types.specs.Consistent.Named.{is_network, is_port, is_group, is_router, is_registered, names_subnet, port_project_stands}
use Rattle.api_types.specs.declared.subnet.SubnetRow.{SubnetRow}
use Rattle.api_types.specs.declared.port.PortRow.{PortRow}
use Rattle.api_types.specs.declared.group.RuleRow.{RuleRow}
use Rattle.api_types.specs.declared.router.RouterRow.{RouterRow}
use Rattle.api_types.specs.declared.router.Gateway.{Gateway}
use Rattle.api_types.specs.declared.floating.FloatingRow.{FloatingRow}
use Rattle.api_types.specs.declared.floating.Target.{Target}
use Rattle.api_types.specs.declared.policy.PolicyRow.{PolicyRow}

abbrev pub subnet_named : RowLists → SubnetRow → Bool
subnet_named rows s = is_network rows.networks s.network && is_registered rows.projects s.project

abbrev pub port_named : RowLists → PortRow → Bool
port_named rows p =
    is_network rows.networks p.network && (list_all (names_subnet rows.subnets p) p.fixed
    && (list_all (is_group rows.groups) p.groups
    && port_project_stands rows.projects rows.floatings p))

abbrev pub rule_named : RowLists → RuleRow → Bool
rule_named rows r =
    is_group rows.groups r.group
    && (if_some (is_group rows.groups) r.remote_group && is_registered rows.projects r.project)

abbrev pub gateway_named : RowLists → Gateway → Bool
gateway_named rows g = is_network rows.networks g.network && is_port rows.ports g.port

abbrev pub router_named : RowLists → RouterRow → Bool
router_named rows r =
    if_some (gateway_named rows) r.gateway && is_registered rows.projects r.project

abbrev pub target_named : RowLists → Target → Bool
target_named rows t = is_port rows.ports t.port && is_router rows.routers t.router

abbrev pub floating_named : RowLists → FloatingRow → Bool
floating_named rows f =
    is_network rows.networks f.network
    && (is_port rows.ports f.own_port
    && (if_some (target_named rows) f.target && is_registered rows.projects f.project))

abbrev pub policy_named : RowLists → PolicyRow → Bool
policy_named rows p = is_network rows.networks p.object && is_registered rows.projects p.project
