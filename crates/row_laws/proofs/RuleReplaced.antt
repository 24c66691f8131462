-- A rule that is replaced by one that differs in its description alone keeps each clause that reads rules, and rows consistent.
use Rattle.std.proofs.Common.{◌≡◌, ◌∙◌, ℕ, List, true, Some, slice_get, slice_set, ap, arith}
use Rattle.std.specs.Prelude.{◌==◌, ◌&&◌, not}
use Rattle.std.specs.List.{list_any}
use Rattle.std.specs.Str.{bytes_eq}
use Rattle.api_types.specs.Table.{ident_eq}
use Rattle.api_types.specs.RowLists.{RowLists}
use Rattle.api_types.specs.Lists.{if_some}
use Rattle.api_types.specs.Consistent.Groups.{is_direction, is_ethertype, prefix_eq, rules_clash, GroupsServe}
use Rattle.api_types.specs.Consistent.InForm.{is_group_of, AreInForm}
use Rattle.api_types.specs.Consistent.Named.{is_group, is_registered, GroupsStand, ProjectsStand}
use Rattle.api_types.specs.Consistent.Numbered.{is_drawn, AreDrawn}
use Rattle.api_types.specs.Consistent.{IsConsistent}
use Rattle.api_types.specs.declared.project.ProjectRow.{ProjectRow}
use Rattle.api_types.specs.declared.network.NetworkRow.{NetworkRow}
use Rattle.api_types.specs.declared.subnet.SubnetRow.{SubnetRow}
use Rattle.api_types.specs.declared.port.PortRow.{PortRow}
use Rattle.api_types.specs.declared.group.GroupRow.{GroupRow}
use Rattle.api_types.specs.declared.group.RuleRow.{RuleRow}
use Rattle.api_types.specs.declared.router.RouterRow.{RouterRow}
use Rattle.row_laws.specs.Replaced.{with_rule_at, IsRedescribedRule}
use Rattle.api_types.proofs.ListLemmas.{each-set, any-set_same}
use Rattle.api_types.proofs.NameLemmas.{any-agree, count-set}
use Rattle.std.specs.Option.{option_eq}

module _ (rules : List RuleRow) (place : ℕ) (old new : RuleRow) (at : slice_get rules place ≡ Some old) (same : IsRedescribedRule old new) where
  -- it clashes with the same rules
  clash_with : (r : RuleRow) → rules_clash r new ≡ rules_clash r old
  clash_with r j = not (ident_eq r.id (same.id j)) && (ident_eq r.group (same.group j) && (bytes_eq r.project (same.project j) && (is_direction r.direction (same.direction j) && (is_ethertype r.ethertype (same.ethertype j) && (option_eq (λ x y. x == y) r.protocol (same.protocol j) && option_eq (λ x y. x == y) r.low (same.low j) && option_eq (λ x y. x == y) r.high (same.high j) && option_eq prefix_eq r.remote_prefix (same.remote_prefix j) && option_eq ident_eq r.remote_group (same.remote_group j))))))

  clash_of : (r : RuleRow) → rules_clash new r ≡ rules_clash old r
  clash_of r j = not (ident_eq (same.id j) r.id) && (ident_eq (same.group j) r.group && (bytes_eq (same.project j) r.project && (is_direction (same.direction j) r.direction && (is_ethertype (same.ethertype j) r.ethertype && (option_eq (λ x y. x == y) (same.protocol j) r.protocol && option_eq (λ x y. x == y) (same.low j) r.low && option_eq (λ x y. x == y) (same.high j) r.high && option_eq prefix_eq (same.remote_prefix j) r.remote_prefix && option_eq ident_eq (same.remote_group j) r.remote_group)))))

  clashes_same : (r : RuleRow) → list_any (rules_clash r) (slice_set rules place new) ≡ list_any (rules_clash r) rules
  clashes_same r = any-set_same (rules_clash r) rules place old new at (clash_with r)

  pub groups_stand : {groups : List GroupRow} {ports : List PortRow}
      → GroupsStand groups ports rules → GroupsStand groups ports (slice_set rules place new)
  groups_stand {groups} {ports} c = record {
    of_ports = c.of_ports;
    of_rules = each-set (λ r. is_group groups r.group ≡ true) rules place new c.of_rules (ap (is_group groups) same.group ∙ c.of_rules place old at);
    of_remotes = each-set (λ r. if_some (is_group groups) r.remote_group ≡ true) rules place new c.of_remotes (ap (if_some (is_group groups)) same.remote_group ∙ c.of_remotes place old at);
  }

  pub in_form : {networks : List NetworkRow} {subnets : List SubnetRow} {ports : List PortRow} {groups : List GroupRow} {routers : List RouterRow}
      → AreInForm networks subnets ports groups rules routers → AreInForm networks subnets ports groups (slice_set rules place new) routers
  in_form {networks} {subnets} {ports} {groups} {routers} c = record {
    segments = c.segments;
    subnet_owners = c.subnet_owners;
    subnet_forms = c.subnet_forms;
    dhcp_owners = c.dhcp_owners;
    port_forms = c.port_forms;
    rule_owners = each-set (λ r. is_group_of groups r.project r.group ≡ true) rules place new c.rule_owners ((λ j. is_group_of groups (same.project j) (same.group j)) ∙ c.rule_owners place old at);
    routes = c.routes;
  }

  pub groups_serve : {projects : List ProjectRow} {ports : List PortRow} {groups : List GroupRow}
      → GroupsServe projects ports groups rules → GroupsServe projects ports groups (slice_set rules place new)
  groups_serve {projects} {ports} {groups} c = record {
    defaults = c.defaults;
    of_ports = c.of_ports;
    bare = c.bare;
    remotes = each-set (λ r. if_some (is_group_of groups r.project) r.remote_group ≡ true) rules place new c.remotes ((λ j. if_some (is_group_of groups (same.project j)) (same.remote_group j)) ∙ c.remotes place old at);
    apart = each-set (λ r. not (list_any (rules_clash r) (slice_set rules place new)) ≡ true) rules place new
        (λ k r h. ap not (clashes_same r) ∙ c.apart k r h)
        (ap not (clashes_same new ∙ any-agree (rules_clash new) (rules_clash old) rules clash_of) ∙ c.apart place old at);
  }

module _ (rows : RowLists) (place : ℕ) (old new : RuleRow) (at : slice_get rows.rules place ≡ Some old) (same : IsRedescribedRule old new) where
  pub are_drawn : AreDrawn rows → AreDrawn (with_rule_at rows place new)
  are_drawn c = record {
    networks = c.networks;
    subnets = c.subnets;
    ports = c.ports;
    groups = c.groups;
    rules = each-set (λ r. is_drawn rows.projects r.id ≡ true) rows.rules place new c.rules (ap (is_drawn rows.projects) same.id ∙ c.rules place old at);
    routers = c.routers;
    floatings = c.floatings;
    policies = c.policies;
  }

  pub projects_stand : ProjectsStand rows → ProjectsStand (with_rule_at rows place new)
  projects_stand c = record {
    of_networks = c.of_networks;
    of_subnets = c.of_subnets;
    of_ports = c.of_ports;
    of_groups = c.of_groups;
    of_rules = each-set (λ r. is_registered rows.projects r.project ≡ true) rows.rules place new c.of_rules (ap (is_registered rows.projects) same.project ∙ c.of_rules place old at);
    of_routers = c.of_routers;
    of_floatings = c.of_floatings;
    of_policies = c.of_policies;
  }

  pub rule_replaced : IsConsistent rows → IsConsistent (with_rule_at rows place new)
  rule_replaced c = record {
    numbered = record {
      projects = c.numbered.projects;
      ids = λ i. let e = count-set (λ g. ident_eq i g.id) rows.rules place old new at (ap (ident_eq i) same.id) in omega (arith, e, c.numbered.ids i);
      drawn = are_drawn c.numbered.drawn;
    };
    named = record {
      networks = c.named.networks;
      subnets = c.named.subnets;
      ports = c.named.ports;
      groups = groups_stand rows.rules place old new at same c.named.groups;
      routers = c.named.routers;
      projects = projects_stand c.named.projects;
    };
    in_form = in_form rows.rules place old new at same c.in_form;
    held_once = c.held_once;
    hosts = c.hosts;
    disjoint = c.disjoint;
    segments = c.segments;
    on_hosts = c.on_hosts;
    services = c.services;
    floatings = c.floatings;
    groups = groups_serve rows.rules place old new at same c.groups;
    allowed = c.allowed;
    outsides = c.outsides;
    routes = c.routes;
  }
