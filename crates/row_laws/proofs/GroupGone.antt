-- A group that goes with its rules and those that name it, where no port names it, keeps rows consistent.
use Rattle.std.proofs.Common.{◌≡◌, ◌≤◌, ◌∙◌, ℕ, List, Bool, true, false, cond, Option, Some, None, refl, ap, arith}
use Rattle.std.specs.Prelude.{◌&&◌, not, filter}
use Rattle.std.specs.List.{list_any, list_all}
use Rattle.std.specs.Str.{bytes_eq}
use Rattle.api_types.specs.Ident.{Ident}
use Rattle.api_types.specs.Table.{ident_eq}
use Rattle.api_types.specs.RowLists.{RowLists}
use Rattle.api_types.specs.Lists.{Each, stands_so, if_some, is_some_so}
use Rattle.api_types.specs.Consistent.{IsConsistent}
use Rattle.api_types.specs.Consistent.Numbered.{times_in}
use Rattle.api_types.specs.Consistent.Named.{is_group, GroupsStand}
use Rattle.api_types.specs.Consistent.InForm.{is_group_of}
use Rattle.api_types.specs.Consistent.Groups.{is_default_of, rules_clash, GroupsServe}
use Rattle.api_types.specs.declared.port.PortRow.{PortRow}
use Rattle.api_types.specs.declared.group.GroupRow.{GroupRow}
use Rattle.api_types.specs.declared.group.RuleRow.{RuleRow}
use Rattle.row_laws.specs.Gone.{names_group, without_group, IsUnusedGroup}
use Rattle.api_types.proofs.ListLemmas.{or_none, none-any, each-filter, any-filter, any-filter_none, sum-filter, sum-filter-le}
use Rattle.api_types.proofs.NameLemmas.{not_true, not_false, other_name, all-at, at-all, first_fails}

module _ (rows : RowLists) (i : Ident) (unused : IsUnusedGroup rows i) (c : IsConsistent rows) where
  abbrev groups : List GroupRow
  groups = filter (λ g. not (ident_eq i g.id)) rows.groups

  abbrev keep : RuleRow → Bool
  keep r = not (names_group i r)

  abbrev rules : List RuleRow
  rules = filter keep rows.rules

  left_groups : (P : GroupRow → Type 0) → Each P rows.groups → Each P groups
  left_groups P = each-filter (λ g. not (ident_eq i g.id)) P P rows.groups (λ r kept h. h)

  left_rules : (P : RuleRow → Type 0) → Each P rows.rules → Each P rules
  left_rules P = each-filter keep P P rows.rules (λ r kept h. h)

  -- a group of another id stays, with what is said of it
  group_stays : (j : Ident) (test : GroupRow → Bool) → ident_eq i j ≡ false → stands_so (λ g. g.id) j test rows.groups ≡ true → stands_so (λ g. g.id) j test groups ≡ true
  group_stays j test other h = any-filter (λ g. not (ident_eq i g.id)) (λ g. ident_eq j g.id && test g) rows.groups
      (λ k g at gone. first_fails (ident_eq j g.id) (test g) (other_name i j g.id (ap not other) gone)) ∙ h

  still : (j : Ident) → ident_eq i j ≡ false → is_group rows.groups j ≡ true → is_group groups j ≡ true
  still j other h = any-filter (λ g. not (ident_eq i g.id)) (λ g. ident_eq j g.id) rows.groups (λ k g at gone. other_name i j g.id (ap not other) gone) ∙ h

  -- what a port names is another group
  each_other : (p : PortRow) → list_any (ident_eq i) p.groups ≡ false → (test : Ident → Bool) (more : Ident → Bool) → ((j : Ident) → ident_eq i j ≡ false → test j ≡ true → more j ≡ true)
      → list_all test p.groups ≡ true → list_all more p.groups ≡ true
  each_other p none test more w h = at-all more p.groups (λ k j at. w j (none-any (ident_eq i) p.groups none k j at) (all-at test p.groups h k j at))

  -- so is what a rule names that stays
  own_other : (r : RuleRow) → keep r ≡ true → ident_eq i r.group ≡ false
  own_other r kept = (or_none (ident_eq i r.group) (is_some_so (ident_eq i) r.remote_group) (not_true (names_group i r) kept)).0

  remote_other : (r : RuleRow) → keep r ≡ true → is_some_so (ident_eq i) r.remote_group ≡ false
  remote_other r kept = (or_none (ident_eq i r.group) (is_some_so (ident_eq i) r.remote_group) (not_true (names_group i r) kept)).1

  if_other : (o : Option Ident) (test more : Ident → Bool) → is_some_so (ident_eq i) o ≡ false → ((j : Ident) → ident_eq i j ≡ false → test j ≡ true → more j ≡ true) → if_some test o ≡ true → if_some more o ≡ true
  if_other None test more other w h = refl
  if_other (Some j) test more other w h = w j other h

  groups_stand : GroupsStand groups rows.ports rules
  groups_stand = record {
    of_ports = λ k p at. each_other p (unused.unnamed k p at) (is_group rows.groups) (is_group groups) still (c.named.groups.of_ports k p at);
    of_rules = each-filter keep (λ r. is_group rows.groups r.group ≡ true) (λ r. is_group groups r.group ≡ true) rows.rules (λ r kept h. still r.group (own_other r kept) h) c.named.groups.of_rules;
    of_remotes = each-filter keep (λ r. if_some (is_group rows.groups) r.remote_group ≡ true) (λ r. if_some (is_group groups) r.remote_group ≡ true) rows.rules
        (λ r kept h. if_other r.remote_group (is_group rows.groups) (is_group groups) (remote_other r kept) still h) c.named.groups.of_remotes;
  }

  groups_serve : GroupsServe rows.projects rows.ports groups rules
  groups_serve = record {
    defaults = λ k p at. sum-filter (λ g. not (ident_eq i g.id)) (λ g. cond (is_default_of p.name g) 1 0) rows.groups
        (λ l g at_g gone. ap (λ b. cond b 1 0) (first_fails g.is_default (bytes_eq g.project p.name) (unused.plain l g at_g (not_false (ident_eq i g.id) gone)))) ∙ c.groups.defaults k p at;
    of_ports = λ k p at. each_other p (unused.unnamed k p at) (is_group_of rows.groups p.project) (is_group_of groups p.project) (λ j. group_stays j (λ g. bytes_eq g.project p.project)) (c.groups.of_ports k p at);
    bare = c.groups.bare;
    remotes = each-filter keep (λ r. if_some (is_group_of rows.groups r.project) r.remote_group ≡ true) (λ r. if_some (is_group_of groups r.project) r.remote_group ≡ true) rows.rules
        (λ r kept h. if_other r.remote_group (is_group_of rows.groups r.project) (is_group_of groups r.project) (remote_other r kept) (λ j. group_stays j (λ g. bytes_eq g.project r.project)) h) c.groups.remotes;
    apart = each-filter keep (λ r. not (list_any (rules_clash r) rows.rules) ≡ true) (λ r. not (list_any (rules_clash r) rules) ≡ true) rows.rules
        (λ r kept h. ap not (any-filter_none keep (rules_clash r) rows.rules (not_true _ h))) c.groups.apart;
  }

  pub group_gone : IsConsistent (without_group rows i)
  group_gone = record {
    numbered = record {
      projects = c.numbered.projects;
      ids = λ j.
          let a = sum-filter-le (λ g. not (ident_eq i g.id)) (λ (g : GroupRow). cond {A = ℕ} (ident_eq j g.id) 1 0) rows.groups in
          let b = sum-filter-le keep (λ (r : RuleRow). cond {A = ℕ} (ident_eq j r.id) 1 0) rows.rules in
          let all : times_in rows j ≤ 1 = c.numbered.ids j in
          omega (arith, a, b, all);
      drawn = record {
        networks = c.numbered.drawn.networks;
        subnets = c.numbered.drawn.subnets;
        ports = c.numbered.drawn.ports;
        groups = left_groups _ c.numbered.drawn.groups;
        rules = left_rules _ c.numbered.drawn.rules;
        routers = c.numbered.drawn.routers;
        floatings = c.numbered.drawn.floatings;
        policies = c.numbered.drawn.policies;
      };
    };
    named = record {
      networks = c.named.networks;
      subnets = c.named.subnets;
      ports = c.named.ports;
      groups = groups_stand;
      routers = c.named.routers;
      projects = record {
        of_networks = c.named.projects.of_networks;
        of_subnets = c.named.projects.of_subnets;
        of_ports = c.named.projects.of_ports;
        of_groups = left_groups _ c.named.projects.of_groups;
        of_rules = left_rules _ c.named.projects.of_rules;
        of_routers = c.named.projects.of_routers;
        of_floatings = c.named.projects.of_floatings;
        of_policies = c.named.projects.of_policies;
      };
    };
    in_form = record {
      segments = c.in_form.segments;
      subnet_owners = c.in_form.subnet_owners;
      subnet_forms = c.in_form.subnet_forms;
      dhcp_owners = c.in_form.dhcp_owners;
      port_forms = c.in_form.port_forms;
      rule_owners = each-filter keep (λ r. is_group_of rows.groups r.project r.group ≡ true) (λ r. is_group_of groups r.project r.group ≡ true) rows.rules
          (λ r kept h. group_stays r.group (λ g. bytes_eq g.project r.project) (own_other r kept) h) c.in_form.rule_owners;
      routes = c.in_form.routes;
    };
    held_once = c.held_once;
    hosts = c.hosts;
    disjoint = c.disjoint;
    segments = c.segments;
    on_hosts = c.on_hosts;
    services = c.services;
    floatings = c.floatings;
    groups = groups_serve;
    allowed = c.allowed;
    outsides = c.outsides;
    routes = c.routes;
  }
