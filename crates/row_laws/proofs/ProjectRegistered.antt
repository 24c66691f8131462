-- A project that is registered, with its default group and its four rules, keeps rows consistent.
use Rattle.std.proofs.Common.{◌≡◌, ◌+◌, ◌<◌, ◌≤◌, ◌^◌, ◌++◌, ◌∷◌, ◌∙◌, ℕ, [], List, Bool, true, false, cond, length, not, refl, ap, sym, arith, subst}
use Rattle.std.specs.Prelude.{◌==◌, ◌&&◌, nat_le}
use Rattle.std.specs.Str.{bytes_eq}
use Rattle.api_types.specs.Ident.{Ident}
use Rattle.api_types.specs.Table.{ident_eq}
use Rattle.api_types.proofs.TableLemmas.{ident_eq-sym}
use Rattle.api_types.specs.RowLists.{RowLists}
use Rattle.api_types.specs.Lists.{Each, if_some, is_empty}
use Rattle.api_types.specs.Consistent.{IsConsistent}
use Rattle.api_types.specs.Consistent.Numbered.{is_drawn, times_in, AreOrdered, ProjectsDiffer, AreDrawn, AreNumbered}
use Rattle.api_types.specs.Consistent.Named.{is_group, is_registered, serves, ProjectsStand}
use Rattle.api_types.specs.Consistent.InForm.{is_group_of}
use Rattle.api_types.specs.Consistent.Groups.{is_direction, is_ethertype, same_match, same_rule}
use Rattle.api_types.specs.declared.project.ProjectRow.{ProjectRow}
use Rattle.api_types.specs.declared.group.RuleRow.{RuleRow}
use Rattle.std.proofs.lemmas.Bool.Decides.{nat_tests}
use Rattle.std.proofs.lemmas.List.{length-append}
use Rattle.std.proofs.lemmas.Option.{slice_get_within}
use Rattle.api_types.specs.Registration.{ident, is_named, default_group, default_remote, default_rule, with_project}
use Rattle.api_types.specs.declared.group.Direction.{Direction}
use Rattle.api_types.specs.declared.group.Direction.TheVariants.{Ingress, Egress}
use Rattle.api_types.specs.declared.group.Ethertype.{Ethertype}
use Rattle.api_types.specs.declared.group.Ethertype.TheVariants.{Ipv4, Ipv6}
use Rattle.row_laws.specs.NewRows.{with_rule, IsNewRule}
use Rattle.row_laws.proofs.RulePushed.{rule_pushed}
use Rattle.row_laws.proofs.GroupPushed.{groups_stand, in_form, groups_serve, defaults_more}
use Rattle.api_types.proofs.ListLemmas.{both_and, at_push, each-push, any-grows, any-last, any-none, none-any, count-none, once-push, none-counted}
use Rattle.api_types.proofs.NameLemmas.{ident_itself, bytes_itself, bytes_same, by_test, unnamed, and_fails}
use Rattle.api_types.proofs.IdLemmas.{ids-push, fresh-push, undrawn_absent}
use Rattle.row_laws.proofs.TimesLemmas.{times-group, times-rule}

ordinal_of : (o c i n : ℕ) → (o == i) && (nat_le 1 n && nat_le n c) ≡ true → o ≡ i
ordinal_of o c i n h = grind (arith, nat_tests)

counted_in : (o c n : ℕ) → 1 ≤ n → n ≤ c → (o == o) && (nat_le 1 n && nat_le n c) ≡ true
counted_in o c n low high = grind (arith, nat_tests)

cond-weaker : (b x y z : Bool) → (y ≡ true → z ≡ true) → cond b x y ≡ true → cond b x z ≡ true
cond-weaker true x y z w h = h
cond-weaker false x y z w h = w h

-- a project that isn't registered yet, and the next ordinal
module _ (projects : List ProjectRow) (p : ProjectRow) (next : p.ordinal ≡ length projects + 1) where
  -- no id of the next ordinal was drawn
  pub undrawn_next : (n : ℕ) → AreOrdered projects → is_drawn projects (ident p.ordinal n) ≡ false
  undrawn_next n ordered = any-none (λ q. (q.ordinal == p.ordinal) && (nat_le 1 n && nat_le n q.count)) projects (λ k q at.
      by_test ((q.ordinal == p.ordinal) && (nat_le 1 n && nat_le n q.count)) ((q.ordinal == p.ordinal) && (nat_le 1 n && nat_le n q.count) ≡ false)
      (λ is. let same : q.ordinal ≡ p.ordinal = ordinal_of q.ordinal q.count p.ordinal n is in
      let place : q.ordinal ≡ k + 1 = (ordered k q at).0 in
      let within : k < length projects = slice_get_within projects k q at in
      absurd (omega arith))
      (λ fails. fails))

  pub drawn_up_to : (n : ℕ) → 1 ≤ n → n ≤ p.count → is_drawn (projects ++ p ∷ []) (ident p.ordinal n) ≡ true
  drawn_up_to n low high = any-last (λ q. (q.ordinal == p.ordinal) && (nat_le 1 n && nat_le n q.count)) projects p (counted_in p.ordinal p.count n low high)

  pub grows : (i : Ident) → is_drawn projects i ≡ true → is_drawn (projects ++ p ∷ []) i ≡ true
  grows i h = any-grows (λ q. (q.ordinal == i.ordinal) && (nat_le 1 i.count && nat_le i.count q.count)) projects p h

  pub known : (name : List ℕ) → is_registered projects name ≡ true → is_registered (projects ++ p ∷ []) name ≡ true
  known name h = any-grows (is_named name) projects p h

  pub now_known : is_registered (projects ++ p ∷ []) p.name ≡ true
  now_known = any-last (is_named p.name) projects p (bytes_itself p.name)

  pub projects_differ : p.count < 2 ^ 62 → not (is_empty p.name) ≡ true → length projects + 1 < 2 ^ 32 → is_registered projects p.name ≡ false → ProjectsDiffer projects → ProjectsDiffer (projects ++ p ∷ [])
  projects_differ room name fewer unknown c = record {
    ordered = λ k q h. at_push projects p q k h ((q.ordinal ≡ k + 1) × (q.count < 2 ^ 62)) (c.ordered k q)
        (λ here is. (ap (λ (x : ProjectRow). x.ordinal) (sym is) ∙ (next ∙ ap (λ n. n + 1) (sym here)), subst (λ (x : ProjectRow). x.count < 2 ^ 62) is room));
    names = λ name. once-push (is_named name) projects p (c.names name) (λ mine.
        count-none (is_named name) projects (subst (λ x. Each (λ q. is_named x q ≡ false) projects) (bytes_same p.name name mine) (none-any (is_named p.name) projects unknown)));
    named = each-push (λ q. not (is_empty q.name) ≡ true) projects p c.named name;
    few = omega (arith, fewer, length-append projects (p ∷ []));
  }

-- the project and its group, without its rules
module _ (rows : RowLists) (name : List ℕ) (count : ℕ) where
  abbrev ordinal : ℕ
  ordinal = length rows.projects + 1

  abbrev project : ProjectRow
  project = record { name = name; ordinal = ordinal; count = count }

  abbrev with_both : RowLists
  with_both = record rows { projects = rows.projects ++ project ∷ []; groups = rows.groups ++ default_group name ordinal ∷ [] }

  fresh : (n : ℕ) → AreNumbered rows → times_in rows (ident ordinal n) ≡ 0
  fresh n c = undrawn_absent rows (ident ordinal n) c.drawn (undrawn_next rows.projects project refl n c.projects.ordered)

  both_drawn : 1 ≤ count → AreDrawn rows → AreDrawn with_both
  both_drawn some c =
      let more = grows rows.projects project refl in
      record {
        networks = λ k r h. more r.id (c.networks k r h);
        subnets = λ k r h. more r.id (c.subnets k r h);
        ports = λ k r h. more r.id (c.ports k r h);
        groups = each-push (λ r. is_drawn (rows.projects ++ project ∷ []) r.id ≡ true) rows.groups (default_group name ordinal) (λ k r h. more r.id (c.groups k r h))
            (drawn_up_to rows.projects project refl 1 (omega arith) some);
        rules = λ k r h. more r.id (c.rules k r h);
        routers = λ k r h. more r.id (c.routers k r h);
        floatings = λ k r h. more r.id (c.floatings k r h);
        policies = λ k r h. more r.id (c.policies k r h);
      }

  both_stand : ProjectsStand rows → ProjectsStand with_both
  both_stand c =
      let more = known rows.projects project refl in
      record {
        of_networks = λ k r h. more r.project (c.of_networks k r h);
        of_subnets = λ k r h. more r.project (c.of_subnets k r h);
        of_ports = λ k r h. cond-weaker (serves rows.floatings r) _ _ _ (more r.project) (c.of_ports k r h);
        of_groups = each-push (λ r. is_registered (rows.projects ++ project ∷ []) r.project ≡ true) rows.groups (default_group name ordinal) (λ k r h. more r.project (c.of_groups k r h))
            (now_known rows.projects project refl);
        of_rules = λ k r h. more r.project (c.of_rules k r h);
        of_routers = λ k r h. more r.project (c.of_routers k r h);
        of_floatings = λ k r h. more r.project (c.of_floatings k r h);
        of_policies = λ k r h. more r.project (c.of_policies k r h);
      }

  both_kept : 1 ≤ count → count < 2 ^ 62 → not (is_empty name) ≡ true → length rows.projects + 1 < 2 ^ 32 → is_registered rows.projects name ≡ false → IsConsistent rows → IsConsistent with_both
  both_kept some room has_name fewer unknown c = record {
    numbered = record {
      projects = projects_differ rows.projects project refl room has_name fewer unknown c.numbered.projects;
      ids = ids-push rows with_both (ident ordinal 1) (λ i. times-group rows i (default_group name ordinal)) (fresh 1 c.numbered) c.numbered.ids;
      drawn = both_drawn some c.numbered.drawn;
    };
    named = record {
      networks = c.named.networks;
      subnets = c.named.subnets;
      ports = c.named.ports;
      groups = groups_stand rows.groups (default_group name ordinal) c.named.groups;
      routers = c.named.routers;
      projects = both_stand c.named.projects;
    };
    in_form = in_form rows.groups (default_group name ordinal) c.in_form;
    held_once = c.held_once;
    hosts = c.hosts;
    disjoint = c.disjoint;
    segments = c.segments;
    on_hosts = c.on_hosts;
    services = c.services;
    floatings = c.floatings;
    groups = groups_serve rows.groups (default_group name ordinal) (rows.projects ++ project ∷ [])
        (defaults_more rows.groups (default_group name ordinal) rows.projects project refl refl unknown c.named.projects.of_groups c.groups.defaults) c.groups;
    allowed = c.allowed;
    outsides = c.outsides;
    routes = c.routes;
  }

  -- its rules, one after the other

  abbrev group_id : Ident
  group_id = ident ordinal 1

  abbrev rule : ℕ → Direction → Ethertype → RuleRow
  rule n direction ethertype = default_rule name ordinal n direction ethertype

  abbrev with_one : RowLists
  with_one = with_rule with_both (rule 2 Egress Ipv4)

  abbrev with_two : RowLists
  with_two = with_rule with_one (rule 3 Egress Ipv6)

  abbrev with_three : RowLists
  with_three = with_rule with_two (rule 4 Ingress Ipv4)

  abbrev with_four : RowLists
  with_four = with_rule with_three (rule 5 Ingress Ipv6)

  -- an id of the new project that none of its first rows has
  apart : (n m : ℕ) → (n == m) ≡ false → ident_eq (ident ordinal n) (ident ordinal m) ≡ false
  apart n m h = and_fails (ordinal == ordinal) (n == m) h

  fresh_both : (n : ℕ) → (n == 1) ≡ false → AreNumbered rows → times_in with_both (ident ordinal n) ≡ 0
  fresh_both n a c = fresh-push rows with_both group_id (ident ordinal n) (λ i. times-group rows i (default_group name ordinal)) (apart n 1 a) (fresh n c)

  fresh_one : (n : ℕ) → (n == 1) ≡ false → (n == 2) ≡ false → AreNumbered rows → times_in with_one (ident ordinal n) ≡ 0
  fresh_one n a b c = fresh-push with_both with_one (ident ordinal 2) (ident ordinal n) (λ i. times-rule with_both i (rule 2 Egress Ipv4)) (apart n 2 b) (fresh_both n a c)

  fresh_two : (n : ℕ) → (n == 1) ≡ false → (n == 2) ≡ false → (n == 3) ≡ false → AreNumbered rows → times_in with_two (ident ordinal n) ≡ 0
  fresh_two n a b d c = fresh-push with_one with_two (ident ordinal 3) (ident ordinal n) (λ i. times-rule with_one i (rule 3 Egress Ipv6)) (apart n 3 d) (fresh_one n a b c)

  fresh_three : (n : ℕ) → (n == 1) ≡ false → (n == 2) ≡ false → (n == 3) ≡ false → (n == 4) ≡ false → AreNumbered rows → times_in with_three (ident ordinal n) ≡ 0
  fresh_three n a b d e c = fresh-push with_two with_three (ident ordinal 4) (ident ordinal n) (λ i. times-rule with_two i (rule 4 Ingress Ipv4)) (apart n 4 e) (fresh_two n a b d c)

  fresh_four : (n : ℕ) → 6 ≤ n → AreNumbered rows → times_in with_four (ident ordinal n) ≡ 0
  fresh_four n above c = fresh-push with_three with_four (ident ordinal 5) (ident ordinal n) (λ i. times-rule with_three i (rule 5 Ingress Ipv6))
      (apart n 5 (other n 5 above refl)) (fresh_three n (other n 1 above refl) (other n 2 above refl) (other n 3 above refl) (other n 4 above refl) c)
    where
      other : (n m : ℕ) → 6 ≤ n → nat_le m 5 ≡ true → (n == m) ≡ false
      other n m h le = grind (arith, nat_tests)

  -- rules of another group, or of another direction or version, differ
  unlike_group : (x y : Bool) → x ≡ false → x && y ≡ false
  unlike_group x y h = ap (λ b. b && y) h

  unlike_kind : (x y d e z : Bool) → d && e ≡ false → x && (y && (d && (e && z))) ≡ false
  unlike_kind x y true true z h = cc
  unlike_kind x y true false z h = and_fails x (y && false) (and_fails y false refl)
  unlike_kind x y false e z h = and_fails x (y && false) (and_fails y false refl)

  unlike_rules : (n m : ℕ) (a b : Direction) (v w : Ethertype) → is_direction a b && is_ethertype v w ≡ false → is_direction b a && is_ethertype w v ≡ false
      → (same_rule (rule n a v) (rule m b w) ≡ false) × (same_rule (rule m b w) (rule n a v) ≡ false)
  unlike_rules n m a b v w there back = (
    unlike_kind (ident_eq group_id group_id) (bytes_eq name name) (is_direction a b) (is_ethertype v w) (same_match (rule n a v) (rule m b w)) there,
    unlike_kind (ident_eq group_id group_id) (bytes_eq name name) (is_direction b a) (is_ethertype w v) (same_match (rule m b w) (rule n a v)) back,
  )

  new_group : AreNumbered rows → is_group rows.groups group_id ≡ false
  new_group c = let none = fresh 1 c in none-counted (λ g. ident_eq group_id g.id) rows.groups (omega (arith, none))

  old_rules : IsConsistent rows → (n : ℕ) (direction : Direction) (ethertype : Ethertype)
      → Each (λ q. (same_rule q (rule n direction ethertype) ≡ false) × (same_rule (rule n direction ethertype) q ≡ false)) rows.rules
  old_rules c n direction ethertype k q at =
      let away = unnamed (λ g. g.id) group_id rows.groups (λ r. r.group) rows.rules (new_group c.numbered) c.named.groups.of_rules k q at in
      (unlike_group _ _ (ident_eq-sym q.group group_id ∙ away), unlike_group _ _ away)

  default_rule_new : (more : RowLists) (n : ℕ) (direction : Direction) (ethertype : Ethertype) → more.projects ≡ with_both.projects → more.groups ≡ with_both.groups
      → times_in more (ident ordinal n) ≡ 0 → 1 ≤ n → n ≤ count
      → Each (λ q. (same_rule q (rule n direction ethertype) ≡ false) × (same_rule (rule n direction ethertype) q ≡ false)) more.rules
      → IsNewRule more (rule n direction ethertype)
  default_rule_new more n direction ethertype projects groups none low high unlike = record {
    fresh = none;
    drawn = ap (λ ps. is_drawn ps (ident ordinal n)) projects ∙ drawn_up_to rows.projects project refl n low high;
    project = ap (λ ps. is_registered ps name) projects ∙ now_known rows.projects project refl;
    group = ap (λ gs. is_group_of gs name group_id) groups ∙ mine;
    remote = ap (λ gs. if_some (is_group_of gs name) (default_remote direction ordinal)) groups ∙ from direction;
    unlike = unlike;
  }
    where
      mine : is_group_of with_both.groups name group_id ≡ true
      mine = any-last (λ g. ident_eq group_id g.id && bytes_eq g.project name) rows.groups (default_group name ordinal) (both_and _ _ (ident_itself group_id) (bytes_itself name))

      from : (direction : Direction) → if_some (is_group_of with_both.groups name) (default_remote direction ordinal) ≡ true
      from Ingress = mine
      from Egress = refl

  pushes : {R : Type 0} (xs : List R) (a b c d : R) → (((xs ++ a ∷ []) ++ b ∷ []) ++ c ∷ []) ++ d ∷ [] ≡ xs ++ (a ∷ b ∷ c ∷ d ∷ [])
  pushes [] a b c d = refl
  pushes (x ∷ xs) a b c d = ap (λ ys. x ∷ ys) (pushes xs a b c d)

  -- as `with_project` says it
  four : with_four ≡ with_project rows name ordinal count
  four = ap (λ rules. record with_both { rules = rules }) (pushes rows.rules (rule 2 Egress Ipv4) (rule 3 Egress Ipv6) (rule 4 Ingress Ipv4) (rule 5 Ingress Ipv6))

  pub project_registered : 5 ≤ count → count < 2 ^ 62 → not (is_empty name) ≡ true → length rows.projects + 1 < 2 ^ 32 → is_registered rows.projects name ≡ false → IsConsistent rows → IsConsistent (with_project rows name ordinal count)
  project_registered some room has_name fewer unknown c =
      let none = c.numbered in
      let both = both_kept (omega (arith, some)) room has_name fewer unknown c in
      let new_one : IsNewRule with_both (rule 2 Egress Ipv4) = default_rule_new with_both 2 Egress Ipv4 refl refl (fresh_both 2 refl none) (omega arith) (omega (arith, some))
      (old_rules c 2 Egress Ipv4) in
      let one : IsConsistent with_one = rule_pushed with_both (rule 2 Egress Ipv4) new_one both in
      let new_two : IsNewRule with_one (rule 3 Egress Ipv6) = default_rule_new with_one 3 Egress Ipv6 refl refl (fresh_one 3 refl refl none) (omega arith) (omega (arith, some))
      (each-push (λ q. (same_rule q (rule 3 Egress Ipv6) ≡ false) × (same_rule (rule 3 Egress Ipv6) q ≡ false)) rows.rules (rule 2 Egress Ipv4)
      (old_rules c 3 Egress Ipv6)
      (unlike_rules 2 3 Egress Egress Ipv4 Ipv6 refl refl)) in
      let two : IsConsistent with_two = rule_pushed with_one (rule 3 Egress Ipv6) new_two one in
      let new_three : IsNewRule with_two (rule 4 Ingress Ipv4) = default_rule_new with_two 4 Ingress Ipv4 refl refl (fresh_two 4 refl refl refl none) (omega arith) (omega (arith, some))
      (each-push (λ q. (same_rule q (rule 4 Ingress Ipv4) ≡ false) × (same_rule (rule 4 Ingress Ipv4) q ≡ false)) with_one.rules (rule 3 Egress Ipv6)
      (each-push (λ q. (same_rule q (rule 4 Ingress Ipv4) ≡ false) × (same_rule (rule 4 Ingress Ipv4) q ≡ false)) rows.rules (rule 2 Egress Ipv4)
      (old_rules c 4 Ingress Ipv4)
      (unlike_rules 2 4 Egress Ingress Ipv4 Ipv4 refl refl))
      (unlike_rules 3 4 Egress Ingress Ipv6 Ipv4 refl refl)) in
      let three : IsConsistent with_three = rule_pushed with_two (rule 4 Ingress Ipv4) new_three two in
      let new_four : IsNewRule with_three (rule 5 Ingress Ipv6) = default_rule_new with_three 5 Ingress Ipv6 refl refl (fresh_three 5 refl refl refl refl none) (omega arith) (omega (arith, some))
      (each-push (λ q. (same_rule q (rule 5 Ingress Ipv6) ≡ false) × (same_rule (rule 5 Ingress Ipv6) q ≡ false)) with_two.rules (rule 4 Ingress Ipv4)
      (each-push (λ q. (same_rule q (rule 5 Ingress Ipv6) ≡ false) × (same_rule (rule 5 Ingress Ipv6) q ≡ false)) with_one.rules (rule 3 Egress Ipv6)
      (each-push (λ q. (same_rule q (rule 5 Ingress Ipv6) ≡ false) × (same_rule (rule 5 Ingress Ipv6) q ≡ false)) rows.rules (rule 2 Egress Ipv4)
      (old_rules c 5 Ingress Ipv6)
      (unlike_rules 2 5 Egress Ingress Ipv4 Ipv6 refl refl))
      (unlike_rules 3 5 Egress Ingress Ipv6 Ipv6 refl refl))
      (unlike_rules 4 5 Ingress Ingress Ipv4 Ipv6 refl refl)) in
      subst IsConsistent four (rule_pushed with_three (rule 5 Ingress Ipv6) new_four three)

  -- the ids above its group's and rules' are still free
  pub free_above : (n : ℕ) → 6 ≤ n → AreNumbered rows → times_in (with_project rows name ordinal count) (ident ordinal n) ≡ 0
  free_above n above c = ap (λ more. times_in more (ident ordinal n)) (sym four) ∙ fresh_four n above c
