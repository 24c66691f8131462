-- Floating addresses that are disassociated keep rows consistent, whichever they are.
use Rattle.std.proofs.Common.{◌≡◌, ◌∙◌, ◌≤◌, ◌∷◌, [], ℕ, zero, suc, List, Bool, true, false, cond, None, refl, ap, sym, subst, arith}
use Rattle.std.specs.Prelude.{◌||◌, not, count_by, map}
use Rattle.std.specs.List.{list_any}
use Rattle.api_types.specs.Ident.{Ident}
use Rattle.api_types.specs.Table.{ident_eq}
use Rattle.api_types.specs.RowLists.{RowLists}
use Rattle.api_types.specs.Lists.{Each, stands_so, if_some, is_empty}
use Rattle.api_types.specs.Owners.{is_gateway}
use Rattle.api_types.specs.Sharing.{is_external_to}
use Rattle.api_types.specs.Consistent.{IsConsistent}
use Rattle.api_types.specs.Consistent.Numbered.{is_drawn}
use Rattle.api_types.specs.Consistent.Named.{is_network, is_port, is_router, is_registered, is_own_port}
use Rattle.api_types.specs.Consistent.Services.{is_port_for}
use Rattle.api_types.specs.Consistent.Floating.{leads_to, stands_for}
use Rattle.api_types.specs.declared.floating.FloatingRow.{FloatingRow}
use Rattle.api_types.specs.declared.floating.Target.{Target}
use Rattle.std.proofs.lemmas.List.Sums.{sum_by-cons}
use Rattle.row_laws.specs.OwnPorts.{freed_if, with_floatings_freed}
use Rattle.api_types.proofs.ListLemmas.{and_both, false_true, none_some, some_equal}

module _ {R S : Type 0} (f : R → S) where
  pub each-map : (P : S → Type 0) (xs : List R) → Each (λ x. P (f x)) xs → Each P (map f xs)
  each-map P [] all k y at = none_some y _ at
  each-map P (x ∷ xs) all zero y at = subst P (some_equal (f x) y at) (all 0 x refl)
  each-map P (x ∷ xs) all (suc k) y at = each-map P xs (λ j z at_z. all (suc j) z at_z) k y at

  pub any-map : (test : S → Bool) (xs : List R) → list_any test (map f xs) ≡ list_any (λ x. test (f x)) xs
  any-map test [] = refl
  any-map test (x ∷ xs) = ap (λ b. test (f x) || b) (any-map test xs)

  pub count-map : (test : S → Bool) (xs : List R) → count_by test (map f xs) ≡ count_by (λ x. test (f x)) xs
  count-map test [] = refl
  count-map test (x ∷ xs) = omega (arith, count-map test xs, sum_by-cons (λ y. cond {A = ℕ} (test y) 1 0) (f x) (map f xs), sum_by-cons (λ y. cond {A = ℕ} (test (f y)) 1 0) x xs)

-- fewer pass a test that asks more
pub count-weaker : {R : Type 0} (p q : R → Bool) (xs : List R) → ((x : R) → p x ≡ true → q x ≡ true) → count_by p xs ≤ count_by q xs
count-weaker p q [] w = omega arith
count-weaker p q (x ∷ xs) w =
    let here : cond {A = ℕ} (p x) 1 0 ≤ cond {A = ℕ} (q x) 1 0 = by (p x) (q x) (w x) in
    omega (arith, count-weaker p q xs w, here, sum_by-cons (λ y. cond {A = ℕ} (p y) 1 0) x xs, sum_by-cons (λ y. cond {A = ℕ} (q y) 1 0) x xs)
  where
    by : (a b : Bool) → (a ≡ true → b ≡ true) → cond {A = ℕ} a 1 0 ≤ cond {A = ℕ} b 1 0
    by true true g = omega arith
    by true false g = false_true _ (g refl)
    by false true g = omega arith
    by false false g = omega arith

pub any-agree_by : {R : Type 0} (p q : R → Bool) (xs : List R) → ((x : R) → p x ≡ q x) → list_any p xs ≡ list_any q xs
any-agree_by p q [] e = refl
any-agree_by p q (x ∷ xs) e = λ j. e x j || any-agree_by p q xs e j

-- what holds of a floating address without a target
kept_by : (P : FloatingRow → Type 0) → ((f : FloatingRow) → P f → P (record f { target = None })) → (b : Bool) (f : FloatingRow) → P f → P (freed_if b f)
kept_by P w true f h = w f h
kept_by P w false f h = h

own_port_same : (b : Bool) (f : FloatingRow) → (freed_if b f).own_port ≡ f.own_port
own_port_same true f = refl
own_port_same false f = refl

id_same : (b : Bool) (f : FloatingRow) → (freed_if b f).id ≡ f.id
id_same true f = refl
id_same false f = refl

stands_less : (n port : Ident) (x : ℕ) (b : Bool) (f : FloatingRow) → stands_for n port x (freed_if b f) ≡ true → stands_for n port x f ≡ true
stands_less n port x true f h = false_true _ (and_both (ident_eq n f.network) false h).1
stands_less n port x false f h = h

module _ (rows : RowLists) (c : IsConsistent rows) (test : FloatingRow → Bool) where
  abbrev freed : FloatingRow → FloatingRow
  freed f = freed_if (test f) f

  abbrev floatings : List FloatingRow
  floatings = map freed rows.floatings

  -- a fact on each floating address that asks nothing of a target
  still : (P : FloatingRow → Type 0) → ((f : FloatingRow) → P f → P (record f { target = None })) → Each P rows.floatings → Each P floatings
  still P w all = each-map freed P rows.floatings (λ k f at. kept_by P w (test f) f (all k f at))

  own_same : (i : Ident) → is_own_port floatings i ≡ is_own_port rows.floatings i
  own_same i = any-map freed (λ f. ident_eq i f.own_port) rows.floatings ∙ any-agree_by (λ f. ident_eq i (freed f).own_port) (λ f. ident_eq i f.own_port) rows.floatings (λ f. ap (ident_eq i) (own_port_same (test f) f))

  pub floatings_freed : IsConsistent (with_floatings_freed test rows)
  floatings_freed = record {
    numbered = record {
      projects = c.numbered.projects;
      ids = λ i.
          let moved = count-map freed (λ f. ident_eq i f.id) rows.floatings in
          let fewer = count-weaker (λ f. ident_eq i (freed f).id) (λ f. ident_eq i f.id) rows.floatings (λ f h. ap (ident_eq i) (sym (id_same (test f) f)) ∙ h) in
          omega (arith, moved, fewer, c.numbered.ids i);
      drawn = record {
        networks = c.numbered.drawn.networks;
        subnets = c.numbered.drawn.subnets;
        ports = c.numbered.drawn.ports;
        groups = c.numbered.drawn.groups;
        rules = c.numbered.drawn.rules;
        routers = c.numbered.drawn.routers;
        floatings = still (λ f. is_drawn rows.projects f.id ≡ true) (λ f h. h) c.numbered.drawn.floatings;
        policies = c.numbered.drawn.policies;
      };
    };
    named = record {
      networks = record {
        of_subnets = c.named.networks.of_subnets;
        of_ports = c.named.networks.of_ports;
        of_gateways = c.named.networks.of_gateways;
        of_floatings = still (λ f. is_network rows.networks f.network ≡ true) (λ f h. h) c.named.networks.of_floatings;
        of_policies = c.named.networks.of_policies;
      };
      subnets = c.named.subnets;
      ports = record {
        of_gateways = c.named.ports.of_gateways;
        of_floatings = still (λ f. is_port rows.ports f.own_port ≡ true) (λ f h. h) c.named.ports.of_floatings;
        of_targets = still (λ f. if_some (λ (t : Target). is_port rows.ports t.port) f.target ≡ true) (λ f h. refl) c.named.ports.of_targets;
      };
      groups = c.named.groups;
      routers = record {
        of_targets = still (λ f. if_some (λ (t : Target). is_router rows.routers t.router) f.target ≡ true) (λ f h. refl) c.named.routers.of_targets;
      };
      projects = record {
        of_networks = c.named.projects.of_networks;
        of_subnets = c.named.projects.of_subnets;
        of_ports = λ k p at. (λ j. cond (is_gateway p.owner || own_same p.id j) (is_empty p.project) (is_registered rows.projects p.project)) ∙ c.named.projects.of_ports k p at;
        of_groups = c.named.projects.of_groups;
        of_rules = c.named.projects.of_rules;
        of_routers = c.named.projects.of_routers;
        of_floatings = still (λ f. is_registered rows.projects f.project ≡ true) (λ f h. h) c.named.projects.of_floatings;
        of_policies = c.named.projects.of_policies;
      };
    };
    in_form = c.in_form;
    held_once = c.held_once;
    hosts = c.hosts;
    disjoint = c.disjoint;
    segments = c.segments;
    on_hosts = c.on_hosts;
    services = record {
      dhcp = c.services.dhcp;
      of_routers = c.services.of_routers;
      of_floatings = record {
        once = λ i.
            let moved = count-map freed (λ f. ident_eq i f.own_port) rows.floatings in
            let fewer = count-weaker (λ f. ident_eq i (freed f).own_port) (λ f. ident_eq i f.own_port) rows.floatings (λ f h. ap (ident_eq i) (sym (own_port_same (test f) f)) ∙ h) in
            omega (arith, moved, fewer, c.services.of_floatings.once i);
        there = still (λ f. stands_so (λ p. p.id) f.own_port (is_port_for f) rows.ports ≡ true) (λ f h. h) c.services.of_floatings.there;
        unsecured = λ k p at. ap (λ b. not b || not p.secured) (own_same p.id) ∙ c.services.of_floatings.unsecured k p at;
      };
    };
    floatings = record {
      once = λ n port x.
          let moved = count-map freed (stands_for n port x) rows.floatings in
          let fewer = count-weaker (λ f. stands_for n port x (freed f)) (stands_for n port x) rows.floatings (λ f. stands_less n port x (test f) f) in
          omega (arith, moved, fewer, c.floatings.once n port x);
      targets = still (λ f. if_some (leads_to rows.ports rows.routers f) f.target ≡ true) (λ f h. refl) c.floatings.targets;
    };
    groups = c.groups;
    allowed = c.allowed;
    outsides = record {
      gateways = c.outsides.gateways;
      addresses = still (λ f. is_external_to rows.policies f.network f.project ≡ true) (λ f h. h) c.outsides.addresses;
      once = c.outsides.once;
    };
    routes = c.routes;
  }
