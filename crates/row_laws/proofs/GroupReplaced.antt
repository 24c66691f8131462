-- A group that is replaced by one that differs in name and description alone keeps each clause that reads groups, and rows consistent.
use Rattle.std.proofs.Common.{◌≡◌, ◌∙◌, ℕ, List, Bool, true, Some, slice_get, slice_set, ap, arith}
use Rattle.std.specs.Prelude.{◌&&◌}
use Rattle.std.specs.List.{list_any}
use Rattle.std.specs.Str.{bytes_eq}
use Rattle.api_types.specs.Ident.{Ident}
use Rattle.api_types.specs.Table.{ident_eq}
use Rattle.api_types.specs.RowLists.{RowLists}
use Rattle.api_types.specs.Consistent.Groups.{is_default_of, GroupsServe}
use Rattle.api_types.specs.Consistent.InForm.{is_group_of, AreInForm}
use Rattle.api_types.specs.Consistent.Named.{is_group, is_registered, GroupsStand, ProjectsStand}
use Rattle.api_types.specs.Consistent.Numbered.{is_drawn, AreDrawn}
use Rattle.api_types.specs.Consistent.{IsConsistent}
use Rattle.api_types.specs.declared.project.ProjectRow.{ProjectRow}
use Rattle.api_types.specs.declared.network.NetworkRow.{NetworkRow}
use Rattle.api_types.specs.declared.subnet.SubnetRow.{SubnetRow}
use Rattle.api_types.specs.declared.port.PortRow.{PortRow}
use Rattle.api_types.specs.declared.group.GroupRow.{GroupRow}
use Rattle.api_types.specs.declared.group.RuleRow.{RuleRow}
use Rattle.api_types.specs.declared.router.RouterRow.{RouterRow}
use Rattle.row_laws.specs.Replaced.{with_group_at, IsRenamedGroup}
use Rattle.api_types.proofs.ListLemmas.{each-set, any-set_same}
use Rattle.api_types.proofs.NameLemmas.{if_some-weaker, all-weaker, count-set}

module _ (groups : List GroupRow) (place : ℕ) (old new : GroupRow) (at : slice_get groups place ≡ Some old) (same : IsRenamedGroup old new) where
  -- a test that reads id and project alone is the same on both rows
  put : (test : Ident → List ℕ → Bool) → list_any (λ g. test g.id g.project) groups ≡ true → list_any (λ g. test g.id g.project) (slice_set groups place new) ≡ true
  put test h = any-set_same (λ g. test g.id g.project) groups place old new at (λ j. test (same.id j) (same.project j)) ∙ h

  still : (i : Ident) → is_group groups i ≡ true → is_group (slice_set groups place new) i ≡ true
  still i = put (λ id project. ident_eq i id)

  still_of : (owner : List ℕ) (i : Ident) → is_group_of groups owner i ≡ true → is_group_of (slice_set groups place new) owner i ≡ true
  still_of owner i = put (λ id project. ident_eq i id && bytes_eq project owner)

  pub groups_stand : {ports : List PortRow} {rules : List RuleRow}
      → GroupsStand groups ports rules → GroupsStand (slice_set groups place new) ports rules
  groups_stand {ports} {rules} c = record {
    of_ports = λ k p h. all-weaker (is_group groups) (is_group (slice_set groups place new)) p.groups still (c.of_ports k p h);
    of_rules = λ k r h. still r.group (c.of_rules k r h);
    of_remotes = λ k r h. if_some-weaker _ _ r.remote_group still (c.of_remotes k r h);
  }

  pub in_form : {networks : List NetworkRow} {subnets : List SubnetRow} {ports : List PortRow} {rules : List RuleRow} {routers : List RouterRow}
      → AreInForm networks subnets ports groups rules routers → AreInForm networks subnets ports (slice_set groups place new) rules routers
  in_form {networks} {subnets} {ports} {rules} {routers} c = record {
    segments = c.segments;
    subnet_owners = c.subnet_owners;
    subnet_forms = c.subnet_forms;
    dhcp_owners = c.dhcp_owners;
    port_forms = c.port_forms;
    rule_owners = λ k r h. still_of r.project r.group (c.rule_owners k r h);
    routes = c.routes;
  }

  pub groups_serve : {projects : List ProjectRow} {ports : List PortRow} {rules : List RuleRow}
      → GroupsServe projects ports groups rules → GroupsServe projects ports (slice_set groups place new) rules
  groups_serve {projects} {ports} {rules} c = record {
    defaults = λ k p h. count-set (is_default_of p.name) groups place old new at (λ j. same.is_default j && bytes_eq (same.project j) p.name) ∙ c.defaults k p h;
    of_ports = λ k p h. all-weaker (is_group_of groups p.project) (is_group_of (slice_set groups place new) p.project) p.groups (still_of p.project) (c.of_ports k p h);
    bare = c.bare;
    remotes = λ k r h. if_some-weaker _ _ r.remote_group (still_of r.project) (c.remotes k r h);
    apart = c.apart;
  }

module _ (rows : RowLists) (place : ℕ) (old new : GroupRow) (at : slice_get rows.groups place ≡ Some old) (same : IsRenamedGroup old new) where
  pub are_drawn : AreDrawn rows → AreDrawn (with_group_at rows place new)
  are_drawn c = record {
    networks = c.networks;
    subnets = c.subnets;
    ports = c.ports;
    groups = each-set (λ r. is_drawn rows.projects r.id ≡ true) rows.groups place new c.groups (ap (is_drawn rows.projects) same.id ∙ c.groups place old at);
    rules = c.rules;
    routers = c.routers;
    floatings = c.floatings;
    policies = c.policies;
  }

  pub projects_stand : ProjectsStand rows → ProjectsStand (with_group_at rows place new)
  projects_stand c = record {
    of_networks = c.of_networks;
    of_subnets = c.of_subnets;
    of_ports = c.of_ports;
    of_groups = each-set (λ r. is_registered rows.projects r.project ≡ true) rows.groups place new c.of_groups (ap (is_registered rows.projects) same.project ∙ c.of_groups place old at);
    of_rules = c.of_rules;
    of_routers = c.of_routers;
    of_floatings = c.of_floatings;
    of_policies = c.of_policies;
  }

  pub group_replaced : IsConsistent rows → IsConsistent (with_group_at rows place new)
  group_replaced c = record {
    numbered = record {
      projects = c.numbered.projects;
      ids = λ i. let e = count-set (λ g. ident_eq i g.id) rows.groups place old new at (ap (ident_eq i) same.id) in omega (arith, e, c.numbered.ids i);
      drawn = are_drawn c.numbered.drawn;
    };
    named = record {
      networks = c.named.networks;
      subnets = c.named.subnets;
      ports = c.named.ports;
      groups = groups_stand rows.groups place old new at same c.named.groups;
      routers = c.named.routers;
      projects = projects_stand c.named.projects;
    };
    in_form = in_form rows.groups place old new at same c.in_form;
    held_once = c.held_once;
    hosts = c.hosts;
    disjoint = c.disjoint;
    segments = c.segments;
    on_hosts = c.on_hosts;
    services = c.services;
    floatings = c.floatings;
    groups = groups_serve rows.groups place old new at same c.groups;
    allowed = c.allowed;
    outsides = c.outsides;
    routes = c.routes;
  }
