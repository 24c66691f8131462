-- A project's count that rises keeps rows consistent.
use Rattle.std.proofs.Common.{◌≡◌, ℕ, ◌+◌, ◌<◌, ◌≤◌, ◌^◌, List, true, false, cond, Some, slice_get, slice_set, not, refl, ap, sym, ◌∙◌, arith, subst}
use Rattle.std.specs.Prelude.{◌==◌, ◌&&◌, count_by, nat_le}
use Rattle.std.proofs.lemmas.Bool.Decides.{nat_tests}
use Rattle.std.proofs.lemmas.List.{length-set}
use Rattle.api_types.specs.Ident.{Ident}
use Rattle.api_types.specs.RowLists.{RowLists}
use Rattle.api_types.specs.Lists.{is_empty}
use Rattle.api_types.specs.Registration.{is_named, with_count, ident}
use Rattle.api_types.specs.Consistent.{IsConsistent}
use Rattle.api_types.specs.Consistent.Numbered.{AreOrdered, is_drawn, ProjectsDiffer, AreDrawn}
use Rattle.api_types.specs.Consistent.Named.{is_registered, serves, ProjectsStand}
use Rattle.api_types.specs.Consistent.Groups.{is_default_of}
use Rattle.api_types.specs.declared.project.ProjectRow.{ProjectRow}
use Rattle.api_types.proofs.ListLemmas.{at_set, each-set, any-none, any-set_same, any-set_grows, sum-set_same, some_equal, set-any}
use Rattle.api_types.proofs.NameLemmas.{by_test, bytes_itself}

-- an id that was drawn was drawn with the raised count too
still_in : (o c d i n : ℕ) → c ≤ d → (o == i) && (nat_le 1 n && nat_le n c) ≡ true → (o == i) && (nat_le 1 n && nat_le n d) ≡ true
still_in o c d i n le h = grind (arith, nat_tests)

drawn_parts : (o c i n : ℕ) → (o == i) && (nat_le 1 n && nat_le n c) ≡ true → (o ≡ i) × (n ≤ c)
drawn_parts o c i n h = (grind (arith, nat_tests), grind (arith, nat_tests))

newly_in : (o c n : ℕ) → 1 ≤ n → n ≤ c → (o == o) && (nat_le 1 n && nat_le n c) ≡ true
newly_in o c n low high = grind (arith, nat_tests)

module _ (rows : RowLists) (place : ℕ) (p : ProjectRow) (count : ℕ) (at : slice_get rows.projects place ≡ Some p) where
  abbrev raised : ProjectRow
  raised = record p { count = count }

  grows : (i : Ident) → p.count ≤ count → is_drawn rows.projects i ≡ true → is_drawn (slice_set rows.projects place raised) i ≡ true
  grows i rises h = any-set_grows (λ q. (q.ordinal == i.ordinal) && (nat_le 1 i.count && nat_le i.count q.count)) rows.projects place p raised at
      (still_in p.ordinal p.count count i.ordinal i.count rises) h

  same : (name : List ℕ) → is_registered (slice_set rows.projects place raised) name ≡ is_registered rows.projects name
  same name = any-set_same (is_named name) rows.projects place p raised at refl

  pub projects_differ : count < 2 ^ 62 → ProjectsDiffer rows.projects → ProjectsDiffer (slice_set rows.projects place raised)
  projects_differ room c = record {
    ordered = λ k q h. at_set rows.projects place raised q k h ((q.ordinal ≡ k + 1) × (q.count < 2 ^ 62)) (c.ordered k q)
        (λ here is. let old = c.ordered place p at in (ap (λ (x : ProjectRow). x.ordinal) (sym is) ∙ (old.0 ∙ ap (λ n. n + 1) (sym here)), subst (λ (x : ProjectRow). x.count < 2 ^ 62) is room));
    names = λ name. let e = sum-set_same (λ q. cond {A = ℕ} (is_named name q) 1 0) rows.projects place p raised at refl in omega (arith, e, c.names name);
    named = each-set (λ q. not (is_empty q.name) ≡ true) rows.projects place raised c.named (c.named place p at);
    few = omega (arith, c.few, length-set rows.projects place raised);
  }

  pub are_drawn : p.count ≤ count → AreDrawn rows → AreDrawn (with_count rows place p count)
  are_drawn rises c = record {
    networks = λ k r h. grows r.id rises (c.networks k r h);
    subnets = λ k r h. grows r.id rises (c.subnets k r h);
    ports = λ k r h. grows r.id rises (c.ports k r h);
    groups = λ k r h. grows r.id rises (c.groups k r h);
    rules = λ k r h. grows r.id rises (c.rules k r h);
    routers = λ k r h. grows r.id rises (c.routers k r h);
    floatings = λ k r h. grows r.id rises (c.floatings k r h);
    policies = λ k r h. grows r.id rises (c.policies k r h);
  }

  pub projects_stand : ProjectsStand rows → ProjectsStand (with_count rows place p count)
  projects_stand c = record {
    of_networks = λ k r h. same r.project ∙ c.of_networks k r h;
    of_subnets = λ k r h. same r.project ∙ c.of_subnets k r h;
    of_ports = λ k r h. ap (cond (serves rows.floatings r) (is_empty r.project)) (same r.project) ∙ c.of_ports k r h;
    of_groups = λ k r h. same r.project ∙ c.of_groups k r h;
    of_rules = λ k r h. same r.project ∙ c.of_rules k r h;
    of_routers = λ k r h. same r.project ∙ c.of_routers k r h;
    of_floatings = λ k r h. same r.project ∙ c.of_floatings k r h;
    of_policies = λ k r h. same r.project ∙ c.of_policies k r h;
  }

  pub count_raised : p.count ≤ count → count < 2 ^ 62 → IsConsistent rows → IsConsistent (with_count rows place p count)
  count_raised rises room c = record {
    numbered = record {
      projects = projects_differ room c.numbered.projects;
      ids = c.numbered.ids;
      drawn = are_drawn rises c.numbered.drawn;
    };
    named = record {
      networks = c.named.networks;
      subnets = c.named.subnets;
      ports = c.named.ports;
      groups = c.named.groups;
      routers = c.named.routers;
      projects = projects_stand c.named.projects;
    };
    in_form = c.in_form;
    held_once = c.held_once;
    hosts = c.hosts;
    disjoint = c.disjoint;
    segments = c.segments;
    on_hosts = c.on_hosts;
    services = c.services;
    floatings = c.floatings;
    groups = record {
      defaults = each-set (λ q. count_by (is_default_of q.name) rows.groups ≡ 1) rows.projects place raised c.groups.defaults (c.groups.defaults place p at);
      of_ports = c.groups.of_ports;
      bare = c.groups.bare;
      remotes = c.groups.remotes;
      apart = c.groups.apart;
    };
    allowed = c.allowed;
    outsides = c.outsides;
    routes = c.routes;
  }

  -- an id above the count wasn't drawn before
  pub undrawn_above : (n : ℕ) → p.count < n → AreOrdered rows.projects → is_drawn rows.projects (ident p.ordinal n) ≡ false
  undrawn_above n above ordered = any-none (λ q. (q.ordinal == p.ordinal) && (nat_le 1 n && nat_le n q.count)) rows.projects (λ k q h.
      by_test ((q.ordinal == p.ordinal) && (nat_le 1 n && nat_le n q.count)) ((q.ordinal == p.ordinal) && (nat_le 1 n && nat_le n q.count) ≡ false)
      (λ is. let parts = drawn_parts q.ordinal q.count p.ordinal n is in
      let mine : p.ordinal ≡ place + 1 = (ordered place p at).0 in
      let other : q.ordinal ≡ k + 1 = (ordered k q h).0 in
      let where_is : q.ordinal ≡ p.ordinal = parts.0 in
      let most : n ≤ q.count = parts.1 in
      let places : k ≡ place = omega arith in
      let one : q ≡ p = some_equal q p (sym h ∙ (ap (slice_get rows.projects) places ∙ at)) in
      let counts : q.count ≡ p.count = ap (λ (x : ProjectRow). x.count) one in
      absurd (omega arith))
      (λ fails. fails))

  -- and is drawn with a count that reaches it
  pub drawn_up_to : (n : ℕ) → 1 ≤ n → n ≤ count → is_drawn (slice_set rows.projects place raised) (ident p.ordinal n) ≡ true
  drawn_up_to n low high = set-any (λ q. (q.ordinal == p.ordinal) && (nat_le 1 n && nat_le n q.count)) rows.projects place p raised at (newly_in p.ordinal count n low high)

  pub named_still : is_registered (slice_set rows.projects place raised) p.name ≡ true
  named_still = set-any (is_named p.name) rows.projects place p raised at (bytes_itself p.name)
