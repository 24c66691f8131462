-- One more rule keeps rows consistent.
use Rattle.std.proofs.Common.{◌≡◌, List, [], ◌∷◌, ◌++◌, true, false, ap}
use Rattle.std.specs.Prelude.{◌&&◌, not}
use Rattle.std.specs.List.{list_any}
use Rattle.std.specs.Str.{bytes_eq}
use Rattle.api_types.specs.Ident.{Ident}
use Rattle.api_types.specs.Table.{ident_eq}
use Rattle.api_types.specs.RowLists.{RowLists}
use Rattle.api_types.specs.Lists.{Each, if_some}
use Rattle.api_types.specs.Consistent.{IsConsistent}
use Rattle.api_types.specs.Consistent.Numbered.{is_drawn, AreDrawn}
use Rattle.api_types.specs.Consistent.Named.{is_group, is_registered, GroupsStand, ProjectsStand}
use Rattle.api_types.specs.Consistent.InForm.{is_group_of, AreInForm}
use Rattle.api_types.specs.Consistent.Groups.{same_rule, rules_clash, GroupsServe}
use Rattle.api_types.specs.declared.project.ProjectRow.{ProjectRow}
use Rattle.api_types.specs.declared.network.NetworkRow.{NetworkRow}
use Rattle.api_types.specs.declared.subnet.SubnetRow.{SubnetRow}
use Rattle.api_types.specs.declared.port.PortRow.{PortRow}
use Rattle.api_types.specs.declared.group.GroupRow.{GroupRow}
use Rattle.api_types.specs.declared.group.RuleRow.{RuleRow}
use Rattle.api_types.specs.declared.router.RouterRow.{RouterRow}
use Rattle.row_laws.specs.NewRows.{with_rule, IsNewRule}
use Rattle.api_types.proofs.ListLemmas.{each-push, any-none, any-weaker, any-stays_none, and_both}
use Rattle.api_types.proofs.NameLemmas.{ident_itself, if_some-weaker, not_true, and_fails}
use Rattle.api_types.proofs.IdLemmas.{ids-push}
use Rattle.row_laws.proofs.TimesLemmas.{times-rule}

module _ (rules : List RuleRow) (r : RuleRow) where
  pub groups_stand : {groups : List GroupRow} {ports : List PortRow} → is_group groups r.group ≡ true → if_some (is_group groups) r.remote_group ≡ true
      → GroupsStand groups ports rules → GroupsStand groups ports (rules ++ r ∷ [])
  groups_stand {groups} own remote c = record {
    of_ports = c.of_ports;
    of_rules = each-push (λ q. is_group groups q.group ≡ true) rules r c.of_rules own;
    of_remotes = each-push (λ q. if_some (is_group groups) q.remote_group ≡ true) rules r c.of_remotes remote;
  }

  pub in_form : {networks : List NetworkRow} {subnets : List SubnetRow} {ports : List PortRow} {groups : List GroupRow} {routers : List RouterRow}
      → is_group_of groups r.project r.group ≡ true → AreInForm networks subnets ports groups rules routers → AreInForm networks subnets ports groups (rules ++ r ∷ []) routers
  in_form {networks} {subnets} {ports} {groups} own c = record {
    segments = c.segments;
    subnet_owners = c.subnet_owners;
    subnet_forms = c.subnet_forms;
    dhcp_owners = c.dhcp_owners;
    port_forms = c.port_forms;
    rule_owners = each-push (λ q. is_group_of groups q.project q.group ≡ true) rules r c.rule_owners own;
    routes = c.routes;
  }

  pub groups_serve : {projects : List ProjectRow} {ports : List PortRow} {groups : List GroupRow}
      → if_some (is_group_of groups r.project) r.remote_group ≡ true → Each (λ q. (same_rule q r ≡ false) × (same_rule r q ≡ false)) rules
      → GroupsServe projects ports groups rules → GroupsServe projects ports groups (rules ++ r ∷ [])
  groups_serve {projects} {ports} {groups} remote unlike c = record {
    defaults = c.defaults;
    of_ports = c.of_ports;
    bare = c.bare;
    remotes = each-push (λ q. if_some (is_group_of groups q.project) q.remote_group ≡ true) rules r c.remotes remote;
    apart = each-push (λ q. not (list_any (rules_clash q) (rules ++ r ∷ [])) ≡ true) rules r
        (λ k q at. ap not (any-stays_none (rules_clash q) rules r (not_true _ (c.apart k q at)) (and_fails _ _ (unlike k q at).0)))
        (ap not (any-stays_none (rules_clash r) rules r (any-none (rules_clash r) rules (λ k s at. and_fails _ _ (unlike k s at).1))
        (ap (λ b. not b && same_rule r r) (ident_itself r.id))));
  }

module _ (rows : RowLists) (r : RuleRow) where
  pub are_drawn : is_drawn rows.projects r.id ≡ true → AreDrawn rows → AreDrawn (with_rule rows r)
  are_drawn drawn c = record {
    networks = c.networks;
    subnets = c.subnets;
    ports = c.ports;
    groups = c.groups;
    rules = each-push (λ q. is_drawn rows.projects q.id ≡ true) rows.rules r c.rules drawn;
    routers = c.routers;
    floatings = c.floatings;
    policies = c.policies;
  }

  pub projects_stand : is_registered rows.projects r.project ≡ true → ProjectsStand rows → ProjectsStand (with_rule rows r)
  projects_stand project c = record {
    of_networks = c.of_networks;
    of_subnets = c.of_subnets;
    of_ports = c.of_ports;
    of_groups = c.of_groups;
    of_rules = each-push (λ q. is_registered rows.projects q.project ≡ true) rows.rules r c.of_rules project;
    of_routers = c.of_routers;
    of_floatings = c.of_floatings;
    of_policies = c.of_policies;
  }

  -- a group of the project is a group
  weak : (i : Ident) → is_group_of rows.groups r.project i ≡ true → is_group rows.groups i ≡ true
  weak i h = any-weaker (λ m. ident_eq i m.id && bytes_eq m.project r.project) (λ m. ident_eq i m.id) rows.groups (λ m g. (and_both _ _ g).0) h

  pub rule_pushed : IsNewRule rows r → IsConsistent rows → IsConsistent (with_rule rows r)
  rule_pushed new c = record {
    numbered = record {
      projects = c.numbered.projects;
      ids = ids-push rows (with_rule rows r) r.id (λ i. times-rule rows i r) new.fresh c.numbered.ids;
      drawn = are_drawn new.drawn c.numbered.drawn;
    };
    named = record {
      networks = c.named.networks;
      subnets = c.named.subnets;
      ports = c.named.ports;
      groups = groups_stand rows.rules r (weak r.group new.group) (if_some-weaker (is_group_of rows.groups r.project) (is_group rows.groups) r.remote_group weak new.remote) c.named.groups;
      routers = c.named.routers;
      projects = projects_stand new.project c.named.projects;
    };
    in_form = in_form rows.rules r new.group c.in_form;
    held_once = c.held_once;
    hosts = c.hosts;
    disjoint = c.disjoint;
    segments = c.segments;
    on_hosts = c.on_hosts;
    services = c.services;
    floatings = c.floatings;
    groups = groups_serve rows.rules r new.remote new.unlike c.groups;
    allowed = c.allowed;
    outsides = c.outsides;
    routes = c.routes;
  }
