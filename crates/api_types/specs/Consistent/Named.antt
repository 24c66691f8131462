-- Each row that another one names is there, and so is each row's project.
use Rattle.std.specs.Prelude.{◌||◌, cond, Bool, List}
use Rattle.std.specs.List.{list_any, list_all}
use Rattle.net_addr.specs.Words.{Text}
use Rattle.api_types.specs.Ident.{Ident}
use Rattle.api_types.specs.Table.{ident_eq}
use Rattle.api_types.specs.Lists.{Pass, stands, stands_so, if_some, is_empty}
use Rattle.api_types.specs.Owners.{is_gateway}
use Rattle.api_types.specs.RowLists.{RowLists}
use Rattle.api_types.specs.Registration.{is_named}
use Rattle.api_types.specs.declared.project.ProjectRow.{ProjectRow}
use Rattle.api_types.specs.declared.network.NetworkRow.{NetworkRow}
use Rattle.api_types.specs.declared.subnet.SubnetRow.{SubnetRow}
use Rattle.api_types.specs.declared.port.PortRow.{PortRow}
use Rattle.api_types.specs.declared.port.Fixed.{Fixed}
use Rattle.api_types.specs.declared.group.GroupRow.{GroupRow}
use Rattle.api_types.specs.declared.group.RuleRow.{RuleRow}
use Rattle.api_types.specs.declared.router.RouterRow.{RouterRow}
use Rattle.api_types.specs.declared.router.Gateway.{Gateway}
use Rattle.api_types.specs.declared.floating.FloatingRow.{FloatingRow}
use Rattle.api_types.specs.declared.floating.Target.{Target}
use Rattle.api_types.specs.declared.policy.PolicyRow.{PolicyRow}

abbrev pub is_network : List NetworkRow → Ident → Bool
is_network networks i = stands (λ n. n.id) i networks

abbrev pub is_port : List PortRow → Ident → Bool
is_port ports i = stands (λ p. p.id) i ports

abbrev pub is_group : List GroupRow → Ident → Bool
is_group groups i = stands (λ g. g.id) i groups

abbrev pub is_router : List RouterRow → Ident → Bool
is_router routers i = stands (λ r. r.id) i routers

abbrev pub is_registered : List ProjectRow → Text → Bool
is_registered projects name = list_any (is_named name) projects

-- a fixed address names a subnet of the port's network
abbrev pub names_subnet : List SubnetRow → PortRow → Fixed → Bool
names_subnet subnets port fixed =
    stands_so (λ s. s.id) fixed.subnet (λ s. ident_eq s.network port.network) subnets

-- whether a floating address names the port as its own
abbrev pub is_own_port : List FloatingRow → Ident → Bool
is_own_port floatings i = list_any (λ f. ident_eq i f.own_port) floatings

-- a gateway port or a floating address's own port
abbrev pub serves : List FloatingRow → PortRow → Bool
serves floatings port = is_gateway port.owner || is_own_port floatings port.id

-- such a port has the empty project, and any other a registered one
abbrev pub port_project_stands : List ProjectRow → List FloatingRow → PortRow → Bool
port_project_stands projects floatings port =
    cond (serves floatings port) (is_empty port.project) (is_registered projects port.project)

pub record NetworksStand (networks : List NetworkRow) (subnets : List SubnetRow)
    (ports : List PortRow) (routers : List RouterRow) (floatings : List FloatingRow)
    (policies : List PolicyRow) : Type 0 where
  pub of_subnets : Pass (λ s. is_network networks s.network) subnets
  pub of_ports : Pass (λ p. is_network networks p.network) ports
  pub of_gateways : Pass (λ r. if_some (λ (g : Gateway). is_network networks g.network) r.gateway)
      routers
  pub of_floatings : Pass (λ f. is_network networks f.network) floatings
  pub of_policies : Pass (λ p. is_network networks p.object) policies

pub record SubnetsStand (subnets : List SubnetRow) (ports : List PortRow) : Type 0 where
  pub of_ports : Pass (λ p. list_all (names_subnet subnets p) p.fixed) ports

pub record PortsStand (ports : List PortRow) (routers : List RouterRow)
    (floatings : List FloatingRow) : Type 0 where
  pub of_gateways : Pass (λ r. if_some (λ (g : Gateway). is_port ports g.port) r.gateway) routers
  pub of_floatings : Pass (λ f. is_port ports f.own_port) floatings
  pub of_targets : Pass (λ f. if_some (λ (t : Target). is_port ports t.port) f.target) floatings

pub record GroupsStand (groups : List GroupRow) (ports : List PortRow) (rules : List RuleRow)
    : Type 0 where
  pub of_ports : Pass (λ p. list_all (is_group groups) p.groups) ports
  pub of_rules : Pass (λ r. is_group groups r.group) rules
  pub of_remotes : Pass (λ r. if_some (is_group groups) r.remote_group) rules

pub record RoutersStand (routers : List RouterRow) (floatings : List FloatingRow) : Type 0 where
  pub of_targets : Pass (λ f. if_some (λ (t : Target). is_router routers t.router) f.target)
      floatings

pub record ProjectsStand (rows : RowLists) : Type 0 where
  pub of_networks : Pass (λ r. is_registered rows.projects r.project) rows.networks
  pub of_subnets : Pass (λ r. is_registered rows.projects r.project) rows.subnets
  pub of_ports : Pass (port_project_stands rows.projects rows.floatings) rows.ports
  pub of_groups : Pass (λ r. is_registered rows.projects r.project) rows.groups
  pub of_rules : Pass (λ r. is_registered rows.projects r.project) rows.rules
  pub of_routers : Pass (λ r. is_registered rows.projects r.project) rows.routers
  pub of_floatings : Pass (λ r. is_registered rows.projects r.project) rows.floatings
  pub of_policies : Pass (λ r. is_registered rows.projects r.project) rows.policies

pub record NamesStand (rows : RowLists) : Type 0 where
  pub networks : NetworksStand rows.networks rows.subnets rows.ports rows.routers rows.floatings
      rows.policies
  pub subnets : SubnetsStand rows.subnets rows.ports
  pub ports : PortsStand rows.ports rows.routers rows.floatings
  pub groups : GroupsStand rows.groups rows.ports rows.rules
  pub routers : RoutersStand rows.routers rows.floatings
  pub projects : ProjectsStand rows
