-- Fewer rules keep each clause that reads rules, and rows consistent.
use Rattle.std.proofs.Common.{◌≡◌, ℕ, List, Bool, true, cond, ap, arith}
use Rattle.std.specs.Prelude.{not, filter}
use Rattle.std.specs.List.{list_any}
use Rattle.api_types.specs.Table.{ident_eq}
use Rattle.api_types.specs.RowLists.{RowLists}
use Rattle.api_types.specs.Lists.{Each}
use Rattle.api_types.specs.Consistent.{IsConsistent}
use Rattle.api_types.specs.Consistent.Numbered.{IdsDiffer, AreDrawn}
use Rattle.api_types.specs.Consistent.Named.{GroupsStand, ProjectsStand}
use Rattle.api_types.specs.Consistent.InForm.{AreInForm}
use Rattle.api_types.specs.Consistent.Groups.{rules_clash, GroupsServe}
use Rattle.api_types.specs.declared.project.ProjectRow.{ProjectRow}
use Rattle.api_types.specs.declared.network.NetworkRow.{NetworkRow}
use Rattle.api_types.specs.declared.subnet.SubnetRow.{SubnetRow}
use Rattle.api_types.specs.declared.port.PortRow.{PortRow}
use Rattle.api_types.specs.declared.group.GroupRow.{GroupRow}
use Rattle.api_types.specs.declared.group.RuleRow.{RuleRow}
use Rattle.api_types.specs.declared.router.RouterRow.{RouterRow}
use Rattle.row_laws.specs.Gone.{with_rules_kept}
use Rattle.api_types.proofs.ListLemmas.{each-filter, any-filter_none, sum-filter-le}
use Rattle.api_types.proofs.NameLemmas.{not_true}

module _ (keep : RuleRow → Bool) (rules : List RuleRow) where
  left : (P : RuleRow → Type 0) → Each P rules → Each P (filter keep rules)
  left P = each-filter keep P P rules (λ r kept h. h)

  pub groups_stand : {groups : List GroupRow} {ports : List PortRow}
      → GroupsStand groups ports rules → GroupsStand groups ports (filter keep rules)
  groups_stand {groups} {ports} c = record {
    of_ports = c.of_ports;
    of_rules = left _ c.of_rules;
    of_remotes = left _ c.of_remotes;
  }

  pub in_form : {networks : List NetworkRow} {subnets : List SubnetRow} {ports : List PortRow} {groups : List GroupRow} {routers : List RouterRow}
      → AreInForm networks subnets ports groups rules routers → AreInForm networks subnets ports groups (filter keep rules) routers
  in_form {networks} {subnets} {ports} {groups} {routers} c = record {
    segments = c.segments;
    subnet_owners = c.subnet_owners;
    subnet_forms = c.subnet_forms;
    dhcp_owners = c.dhcp_owners;
    port_forms = c.port_forms;
    rule_owners = left _ c.rule_owners;
    routes = c.routes;
  }

  pub groups_serve : {projects : List ProjectRow} {ports : List PortRow} {groups : List GroupRow}
      → GroupsServe projects ports groups rules → GroupsServe projects ports groups (filter keep rules)
  groups_serve {projects} {ports} {groups} c = record {
    defaults = c.defaults;
    of_ports = c.of_ports;
    bare = c.bare;
    remotes = left _ c.remotes;
    apart = each-filter keep (λ r. not (list_any (rules_clash r) rules) ≡ true) (λ r. not (list_any (rules_clash r) (filter keep rules)) ≡ true) rules
        (λ r kept h. ap not (any-filter_none keep (rules_clash r) rules (not_true _ h))) c.apart;
  }

module _ (keep : RuleRow → Bool) (rows : RowLists) where
  pub are_drawn : AreDrawn rows → AreDrawn (with_rules_kept keep rows)
  are_drawn c = record {
    networks = c.networks;
    subnets = c.subnets;
    ports = c.ports;
    groups = c.groups;
    rules = left keep rows.rules _ c.rules;
    routers = c.routers;
    floatings = c.floatings;
    policies = c.policies;
  }

  pub projects_stand : ProjectsStand rows → ProjectsStand (with_rules_kept keep rows)
  projects_stand c = record {
    of_networks = c.of_networks;
    of_subnets = c.of_subnets;
    of_ports = c.of_ports;
    of_groups = c.of_groups;
    of_rules = left keep rows.rules _ c.of_rules;
    of_routers = c.of_routers;
    of_floatings = c.of_floatings;
    of_policies = c.of_policies;
  }

  pub ids_differ : IdsDiffer rows → IdsDiffer (with_rules_kept keep rows)
  ids_differ once i = let a = sum-filter-le keep (λ (r : RuleRow). cond {A = ℕ} (ident_eq i r.id) 1 0) rows.rules in omega (arith, a, once i)

  pub rules_gone : IsConsistent rows → IsConsistent (with_rules_kept keep rows)
  rules_gone c = record {
    numbered = record {
      projects = c.numbered.projects;
      ids = ids_differ c.numbered.ids;
      drawn = are_drawn c.numbered.drawn;
    };
    named = record {
      networks = c.named.networks;
      subnets = c.named.subnets;
      ports = c.named.ports;
      groups = groups_stand keep rows.rules c.named.groups;
      routers = c.named.routers;
      projects = projects_stand c.named.projects;
    };
    in_form = in_form keep rows.rules c.in_form;
    held_once = c.held_once;
    hosts = c.hosts;
    disjoint = c.disjoint;
    segments = c.segments;
    on_hosts = c.on_hosts;
    services = c.services;
    floatings = c.floatings;
    groups = groups_serve keep rows.rules c.groups;
    allowed = c.allowed;
    outsides = c.outsides;
    routes = c.routes;
  }
