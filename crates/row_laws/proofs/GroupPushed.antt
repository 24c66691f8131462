-- One more group keeps each clause that reads groups, and one that is no default group keeps rows consistent.
use Rattle.std.proofs.Common.{◌≡◌, ◌+◌, ◌++◌, ◌∷◌, ◌∙◌, ℕ, [], List, Bool, true, false, cond, ap, sym, arith, subst}
use Rattle.std.specs.Prelude.{◌&&◌, count_by}
use Rattle.std.specs.Str.{bytes_eq}
use Rattle.std.proofs.lemmas.List.Sums.{sum_by_push}
use Rattle.api_types.specs.Ident.{Ident}
use Rattle.api_types.specs.Table.{ident_eq}
use Rattle.api_types.specs.RowLists.{RowLists}
use Rattle.api_types.specs.Lists.{Each}
use Rattle.api_types.specs.Registration.{is_named}
use Rattle.api_types.specs.Consistent.{IsConsistent}
use Rattle.api_types.specs.Consistent.Numbered.{is_drawn, AreDrawn}
use Rattle.api_types.specs.Consistent.Named.{is_group, is_registered, GroupsStand, ProjectsStand}
use Rattle.api_types.specs.Consistent.InForm.{is_group_of, AreInForm}
use Rattle.api_types.specs.Consistent.Groups.{is_default_of, GroupsServe}
use Rattle.api_types.specs.declared.project.ProjectRow.{ProjectRow}
use Rattle.api_types.specs.declared.network.NetworkRow.{NetworkRow}
use Rattle.api_types.specs.declared.subnet.SubnetRow.{SubnetRow}
use Rattle.api_types.specs.declared.port.PortRow.{PortRow}
use Rattle.api_types.specs.declared.group.GroupRow.{GroupRow}
use Rattle.api_types.specs.declared.group.RuleRow.{RuleRow}
use Rattle.api_types.specs.declared.router.RouterRow.{RouterRow}
use Rattle.row_laws.specs.NewRows.{with_group, IsNewGroup}
use Rattle.api_types.proofs.ListLemmas.{both_and, each-push, any-grows, count-none, at-any}
use Rattle.api_types.proofs.NameLemmas.{bytes_itself, bytes_same, if_some-weaker, all-weaker, fails_by, and_fails}
use Rattle.api_types.proofs.IdLemmas.{ids-push}
use Rattle.row_laws.proofs.TimesLemmas.{times-group}

module _ (groups : List GroupRow) (g : GroupRow) where
  still : (i : Ident) → is_group groups i ≡ true → is_group (groups ++ g ∷ []) i ≡ true
  still i h = any-grows (λ r. ident_eq i r.id) groups g h

  still_of : (project : List ℕ) (i : Ident) → is_group_of groups project i ≡ true → is_group_of (groups ++ g ∷ []) project i ≡ true
  still_of project i h = any-grows (λ r. ident_eq i r.id && bytes_eq r.project project) groups g h

  pub groups_stand : {ports : List PortRow} {rules : List RuleRow} → GroupsStand groups ports rules → GroupsStand (groups ++ g ∷ []) ports rules
  groups_stand c = record {
    of_ports = λ k q h. all-weaker (is_group groups) (is_group (groups ++ g ∷ [])) q.groups still (c.of_ports k q h);
    of_rules = λ k r h. still r.group (c.of_rules k r h);
    of_remotes = λ k r h. if_some-weaker _ _ r.remote_group still (c.of_remotes k r h);
  }

  pub in_form : {networks : List NetworkRow} {subnets : List SubnetRow} {ports : List PortRow} {rules : List RuleRow} {routers : List RouterRow}
      → AreInForm networks subnets ports groups rules routers → AreInForm networks subnets ports (groups ++ g ∷ []) rules routers
  in_form c = record {
    segments = c.segments;
    subnet_owners = c.subnet_owners;
    subnet_forms = c.subnet_forms;
    dhcp_owners = c.dhcp_owners;
    port_forms = c.port_forms;
    rule_owners = λ k r h. still_of r.project r.group (c.rule_owners k r h);
    routes = c.routes;
  }

  -- what a group more does to the count of default groups
  counted : (name : List ℕ) (n : ℕ) → count_by (is_default_of name) groups + cond {A = ℕ} (is_default_of name g) 1 0 ≡ n → count_by (is_default_of name) (groups ++ g ∷ []) ≡ n
  counted name n h = sum_by_push (λ r. cond {A = ℕ} (is_default_of name r) 1 0) groups g ∙ h

  pub groups_serve : {projects : List ProjectRow} {ports : List PortRow} {rules : List RuleRow} (more : List ProjectRow)
      → Each (λ p. count_by (is_default_of p.name) (groups ++ g ∷ []) ≡ 1) more
      → GroupsServe projects ports groups rules → GroupsServe more ports (groups ++ g ∷ []) rules
  groups_serve more defaults c = record {
    defaults = defaults;
    of_ports = λ k q h. all-weaker (is_group_of groups q.project) (is_group_of (groups ++ g ∷ []) q.project) q.groups (still_of q.project) (c.of_ports k q h);
    bare = c.bare;
    remotes = λ k r h. if_some-weaker _ _ r.remote_group (still_of r.project) (c.remotes k r h);
    apart = c.apart;
  }

  -- a group that is no default group leaves each project its one
  pub defaults_still : (projects : List ProjectRow) → g.is_default ≡ false → Each (λ p. count_by (is_default_of p.name) groups ≡ 1) projects
      → Each (λ p. count_by (is_default_of p.name) (groups ++ g ∷ []) ≡ 1) projects
  defaults_still projects plain c k p at = counted p.name 1
      (let zero : cond {A = ℕ} (is_default_of p.name g) 1 0 ≡ 0 = ap (λ (b : Bool). cond {A = ℕ} (b && bytes_eq g.project p.name) 1 0) plain in omega (arith, zero, c k p at))

  -- the default group of a new project is its one, and no other's
  pub defaults_more : (projects : List ProjectRow) (p : ProjectRow) → g.is_default ≡ true → g.project ≡ p.name → is_registered projects p.name ≡ false
      → Each (λ r. is_registered projects r.project ≡ true) groups
      → Each (λ q. count_by (is_default_of q.name) groups ≡ 1) projects → Each (λ q. count_by (is_default_of q.name) (groups ++ g ∷ []) ≡ 1) (projects ++ p ∷ [])
  defaults_more projects p default project unknown owners c = each-push (λ q. count_by (is_default_of q.name) (groups ++ g ∷ []) ≡ 1) projects p
      (λ k q at. counted q.name 1
      (let away : is_default_of q.name g ≡ false = and_fails g.is_default (bytes_eq g.project q.name) (ap (λ n. bytes_eq n q.name) project
      ∙ fails_by (bytes_eq p.name q.name) (is_registered projects p.name) (λ h. at-any (is_named p.name) projects k q at (subst (λ n. bytes_eq q.name n ≡ true) (sym (bytes_same p.name q.name h)) (bytes_itself q.name))) unknown) in
      let zero : cond {A = ℕ} (is_default_of q.name g) 1 0 ≡ 0 = ap (λ (b : Bool). cond {A = ℕ} b 1 0) away in
      omega (arith, zero, c k q at)))
      (counted p.name 1
      (let zeros : count_by (is_default_of p.name) groups ≡ 0 = count-none (is_default_of p.name) groups (λ k r at. and_fails r.is_default (bytes_eq r.project p.name)
      (fails_by (bytes_eq r.project p.name) (is_registered projects p.name) (λ h. subst (λ n. is_registered projects n ≡ true) (bytes_same r.project p.name h) (owners k r at)) unknown)) in
      let one : cond {A = ℕ} (is_default_of p.name g) 1 0 ≡ 1 = ap (λ (b : Bool). cond {A = ℕ} b 1 0) (both_and g.is_default (bytes_eq g.project p.name) default (ap (λ n. bytes_eq n p.name) project ∙ bytes_itself p.name)) in
      omega (arith, zeros, one)))

module _ (rows : RowLists) (g : GroupRow) where
  pub are_drawn : is_drawn rows.projects g.id ≡ true → AreDrawn rows → AreDrawn (with_group rows g)
  are_drawn drawn c = record {
    networks = c.networks;
    subnets = c.subnets;
    ports = c.ports;
    groups = each-push (λ r. is_drawn rows.projects r.id ≡ true) rows.groups g c.groups drawn;
    rules = c.rules;
    routers = c.routers;
    floatings = c.floatings;
    policies = c.policies;
  }

  pub projects_stand : is_registered rows.projects g.project ≡ true → ProjectsStand rows → ProjectsStand (with_group rows g)
  projects_stand project c = record {
    of_networks = c.of_networks;
    of_subnets = c.of_subnets;
    of_ports = c.of_ports;
    of_groups = each-push (λ r. is_registered rows.projects r.project ≡ true) rows.groups g c.of_groups project;
    of_rules = c.of_rules;
    of_routers = c.of_routers;
    of_floatings = c.of_floatings;
    of_policies = c.of_policies;
  }

  pub group_pushed : IsNewGroup rows g → IsConsistent rows → IsConsistent (with_group rows g)
  group_pushed new c = record {
    numbered = record {
      projects = c.numbered.projects;
      ids = ids-push rows (with_group rows g) g.id (λ i. times-group rows i g) new.fresh c.numbered.ids;
      drawn = are_drawn new.drawn c.numbered.drawn;
    };
    named = record {
      networks = c.named.networks;
      subnets = c.named.subnets;
      ports = c.named.ports;
      groups = groups_stand rows.groups g c.named.groups;
      routers = c.named.routers;
      projects = projects_stand new.project c.named.projects;
    };
    in_form = in_form rows.groups g c.in_form;
    held_once = c.held_once;
    hosts = c.hosts;
    disjoint = c.disjoint;
    segments = c.segments;
    on_hosts = c.on_hosts;
    services = c.services;
    floatings = c.floatings;
    groups = groups_serve rows.groups g rows.projects (defaults_still rows.groups g rows.projects new.plain c.groups.defaults) c.groups;
    allowed = c.allowed;
    outsides = c.outsides;
    routes = c.routes;
  }
