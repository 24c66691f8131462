-- Each row that another one names is there, and so is each row's project.
use Rattle.std.specs.Prelude.{◌||◌, cond, Bool, List}
use Rattle.std.specs.List.{list_all}
use Rattle.api_types.specs.Ident.{Ident}
use Rattle.api_types.specs.Table.{ident_eq}
use Rattle.api_types.specs.Lists.{Pass, stands, stands_so, if_some, is_empty}
use Rattle.api_types.specs.Owners.{is_gateway}
use Rattle.api_types.specs.Consistent.Named.{is_network, is_group, is_registered, is_own_port}
use Rattle.api_types.specs.declared.router.Gateway.{Gateway}
use Rattle.api_types.specs.declared.floating.Target.{Target}
use Rattle.old_rows.specs.OldLists.{OldLists}
use Rattle.old_rows.specs.declared.subnet.OldSubnet.{OldSubnet}
use Rattle.old_rows.specs.declared.port.OldPort.{OldPort}
use Rattle.old_rows.specs.declared.port.Fixed4.{Fixed4}
use Rattle.old_rows.specs.declared.router.OldRouter.{OldRouter}

abbrev pub is_port : List OldPort → Ident → Bool
is_port ports i = stands (λ p. p.id) i ports

abbrev pub is_router : List OldRouter → Ident → Bool
is_router routers i = stands (λ r. r.id) i routers

-- a fixed address names a subnet of the port's network
abbrev pub names_subnet : List OldSubnet → OldPort → Fixed4 → Bool
names_subnet subnets port fixed =
    stands_so (λ s. s.id) fixed.subnet (λ s. ident_eq s.network port.network) subnets

-- a gateway port and a floating address's own port have the empty project, and any other a
-- registered one
abbrev pub port_project_stands : OldLists → OldPort → Bool
port_project_stands old p =
    cond (is_gateway p.owner || is_own_port old.floatings p.id) (is_empty p.project)
    (is_registered old.projects p.project)

pub record NetworksStand (old : OldLists) : Type 0 where
  pub of_subnets : Pass (λ s. is_network old.networks s.network) old.subnets
  pub of_ports : Pass (λ p. is_network old.networks p.network) old.ports
  pub of_gateways : Pass
      (λ r. if_some (λ (g : Gateway). is_network old.networks g.network) r.gateway) old.routers
  pub of_floatings : Pass (λ f. is_network old.networks f.network) old.floatings
  pub of_policies : Pass (λ p. is_network old.networks p.object) old.policies

pub record PortsStand (old : OldLists) : Type 0 where
  pub of_gateways : Pass (λ r. if_some (λ (g : Gateway). is_port old.ports g.port) r.gateway)
      old.routers
  pub of_floatings : Pass (λ f. is_port old.ports f.own_port) old.floatings
  pub of_targets : Pass (λ f. if_some (λ (t : Target). is_port old.ports t.port) f.target)
      old.floatings

pub record GroupsStand (old : OldLists) : Type 0 where
  pub of_ports : Pass (λ p. list_all (is_group old.groups) p.groups) old.ports
  pub of_rules : Pass (λ r. is_group old.groups r.group) old.rules
  pub of_remotes : Pass (λ r. if_some (is_group old.groups) r.remote_group) old.rules

pub record ProjectsStand (old : OldLists) : Type 0 where
  pub of_networks : Pass (λ r. is_registered old.projects r.project) old.networks
  pub of_subnets : Pass (λ r. is_registered old.projects r.project) old.subnets
  pub of_ports : Pass (port_project_stands old) old.ports
  pub of_groups : Pass (λ r. is_registered old.projects r.project) old.groups
  pub of_rules : Pass (λ r. is_registered old.projects r.project) old.rules
  pub of_routers : Pass (λ r. is_registered old.projects r.project) old.routers
  pub of_floatings : Pass (λ r. is_registered old.projects r.project) old.floatings
  pub of_policies : Pass (λ r. is_registered old.projects r.project) old.policies

pub record NamesStand (old : OldLists) : Type 0 where
  pub networks : NetworksStand old
  pub subnets : Pass (λ p. list_all (names_subnet old.subnets p) p.fixed) old.ports
  pub ports : PortsStand old
  pub groups : GroupsStand old
  pub routers : Pass (λ f. if_some (λ (t : Target). is_router old.routers t.router) f.target)
      old.floatings
  pub projects : ProjectsStand old
