-- Numbers among others: of rows that pass a test, and of what each of some leads to.
use Rattle.std.proofs.Common.{append_assoc, ◌≡◌, ◌∙◌, ℕ, zero, suc, ◌+◌, List, [], ◌∷◌, ◌++◌, Bool, true, false, Option, Some, None, length, slice_get, refl, ap, sym, subst, arith}
use Rattle.std.specs.Prelude.{◌==◌, ◌||◌, flat_map, if◌then◌else◌, nat_lt}
use Rattle.std.specs.List.{cons_option, filter_map, list_any}
use Rattle.std.proofs.lemmas.Bool.Decides.{nat_tests}
use Rattle.api_types.specs.Ident.{Ident}
use Rattle.api_types.specs.RowLists.{RowLists}
use Rattle.api_types.specs.declared.floating.FloatingRow.{FloatingRow}
use Rattle.api_types.specs.declared.floating.Target.{Target}
use Rattle.api_types.specs.declared.port.Fixed.{Fixed}
use Rattle.api_types.specs.declared.port.PortRow.{PortRow}
use Rattle.api_types.specs.declared.router.RouterRow.{RouterRow}
use Rattle.api_types.proofs.ListLemmas.{any-none, false_true, none_some, or_none, or_true, some_equal}
use Rattle.api_types.proofs.NameLemmas.{and_fails, by_test}
use Rattle.plane_types.specs.Keyed.{are_one}
use Rattle.table_edits.specs.EditsAt.{among}
use Rattle.touched_rows.specs.CanLive.{can_live}
use Rattle.touched_rows.specs.TouchedNumbers.{can_live_on, is_by, numbers_from, router_in, router_number}

one_itself : (k m : ℕ) → k ≡ m → are_one nat_lt k m ≡ true
one_itself k m h = grind (arith, nat_tests, h)

one_number : (k m : ℕ) → are_one nat_lt k m ≡ true → k ≡ m
one_number k m h = grind (arith, nat_tests, h)

are_equal : (k m : ℕ) → are_one nat_lt k m ≡ (m == k)
are_equal k m = grind (arith, nat_tests)

pub among_any : (k : ℕ) (ns : List ℕ) → among nat_lt k ns ≡ list_any (λ m. m == k) ns
among_any k [] = refl
among_any k (m ∷ ns) = λ j. are_equal k m j || among_any k ns j

-- what isn't among two lists one after the other is in neither
pub among_neither : (k : ℕ) (ms ns : List ℕ) → among nat_lt k (ms ++ ns) ≡ false → (among nat_lt k ms ≡ false) × (among nat_lt k ns ≡ false)
among_neither k [] ns h = (refl, h)
among_neither k (m ∷ ms) ns h =
    let first = or_none (are_one nat_lt k m) (among nat_lt k (ms ++ ns)) h in
    let rest = among_neither k ms ns first.1 in
    (ap (λ b. b || among nat_lt k ms) first.0 ∙ rest.0, rest.1)

-- nor what isn't among three
pub among_none : (k : ℕ) (all xs ys zs : List ℕ) → all ≡ (xs ++ ys) ++ zs → among nat_lt k all ≡ false → (among nat_lt k xs ≡ false) × (among nat_lt k ys ≡ false) × (among nat_lt k zs ≡ false)
among_none k all xs ys zs is h =
    let last = among_neither k (xs ++ ys) zs (ap (among nat_lt k) (sym is) ∙ h) in
    let first = among_neither k xs ys last.0 in
    (first.0, first.1, last.1)

among_first : (k : ℕ) (ms ns : List ℕ) → among nat_lt k ms ≡ true → among nat_lt k (ms ++ ns) ≡ true
among_first k [] ns h = false_true _ h
among_first k (m ∷ ms) ns h = by_test (are_one nat_lt k m) (among nat_lt k (m ∷ ms ++ ns) ≡ true)
    (λ is. ap (λ b. b || among nat_lt k (ms ++ ns)) is)
    (λ off. ap (λ b. b || among nat_lt k (ms ++ ns)) off ∙ among_first k ms ns (sym (ap (λ b. b || among nat_lt k ms) off) ∙ h))

among_second : (k : ℕ) (ms ns : List ℕ) → among nat_lt k ns ≡ true → among nat_lt k (ms ++ ns) ≡ true
among_second k [] ns h = h
among_second k (m ∷ ms) ns h = ap (λ b. are_one nat_lt k m || b) (among_second k ms ns h) ∙ or_true (are_one nat_lt k m)

pub among_here : (k : ℕ) (ns : List ℕ) → among nat_lt k (cons_option (Some k) ns) ≡ true
among_here k ns = ap (λ b. b || among nat_lt k ns) (one_itself k k refl)

pub among_later : (k : ℕ) (o : Option ℕ) (ns : List ℕ) → among nat_lt k ns ≡ true → among nat_lt k (cons_option o ns) ≡ true
among_later k None ns h = h
among_later k (Some m) ns h = ap (λ b. are_one nat_lt k m || b) h ∙ or_true (are_one nat_lt k m)

pub among_flat : (f : ℕ → List ℕ) (js : List ℕ) (j k : ℕ) → among nat_lt j js ≡ true → among nat_lt k (f j) ≡ true → among nat_lt k (flat_map f js) ≡ true
among_flat f [] j k there h = false_true _ there
among_flat f (i ∷ js) j k there h = by_test (are_one nat_lt j i) (among nat_lt k (flat_map f (i ∷ js)) ≡ true)
    (λ is. among_first k (f i) (flat_map f js) (subst (λ m. among nat_lt k (f m) ≡ true) (one_number j i is) h))
    (λ off. among_second k (f i) (flat_map f js) (among_flat f js j k (sym (ap (λ b. b || among nat_lt j js) off) ∙ there) h))

pub any_among : (test : ℕ → Bool) (ns : List ℕ) (k : ℕ) → among nat_lt k ns ≡ true → test k ≡ true → list_any test ns ≡ true
any_among test [] k there h = false_true _ there
any_among test (m ∷ ns) k there h = by_test (are_one nat_lt k m) (list_any test (m ∷ ns) ≡ true)
    (λ is. ap (λ b. b || list_any test ns) (ap test (sym (one_number k m is)) ∙ h))
    (λ off. ap (λ b. test m || b) (any_among test ns k (sym (ap (λ b. b || among nat_lt k ns) off) ∙ there) h) ∙ or_true (test m))

module _ {X : Type 0} (f : X → Option ℕ) (k : ℕ) where
  pub among_kept : (xs : List X) (i : ℕ) (x : X) → slice_get xs i ≡ Some x → f x ≡ Some k → among nat_lt k (filter_map f xs) ≡ true
  among_kept [] i x at h = none_some x _ at
  among_kept (y ∷ xs) zero x at h =
      let gives : f y ≡ Some k = ap f (some_equal y x at) ∙ h in
      ap (λ o. among nat_lt k (cons_option o (filter_map f xs))) gives ∙ among_here k (filter_map f xs)
  among_kept (y ∷ xs) (suc i) x at h = among_later k (f y) (filter_map f xs) (among_kept xs i x at h)

module _ {R : Type 0} (test : R → Bool) where
  from_first : (n : ℕ) (rows : List R) (k : ℕ) (r : R) → slice_get rows k ≡ Some r → test r ≡ true → among nat_lt (n + k) (numbers_from test n rows) ≡ true
  from_first n [] k r at h = none_some r _ at
  from_first n (x ∷ rows) zero r at h =
      let passes : test x ≡ true = ap test (some_equal x r at) ∙ h in
      let here : n + 0 ≡ n = omega arith in
      ap (λ b. among nat_lt (n + 0) (if b then n ∷ numbers_from test (n + 1) rows else numbers_from test (n + 1) rows)) passes
      ∙ ap (λ b. b || among nat_lt (n + 0) (numbers_from test (n + 1) rows)) (one_itself (n + 0) n here)
  from_first n (x ∷ rows) (suc k) r at h =
      let next : n + 1 + k ≡ n + suc k = omega arith in
      let rest : among nat_lt (n + suc k) (numbers_from test (n + 1) rows) ≡ true = subst (λ m. among nat_lt m (numbers_from test (n + 1) rows) ≡ true) next (from_first (n + 1) rows k r at h) in
      go (test x) rest
    where
      go : (b : Bool) → among nat_lt (n + suc k) (numbers_from test (n + 1) rows) ≡ true → among nat_lt (n + suc k) (if b then n ∷ numbers_from test (n + 1) rows else numbers_from test (n + 1) rows) ≡ true
      go true rest = ap (λ b. are_one nat_lt (n + suc k) n || b) rest ∙ or_true (are_one nat_lt (n + suc k) n)
      go false rest = rest

  -- a row whose number isn't among those of the rows that pass fails
  pub not_among : (rows : List R) (k : ℕ) (r : R) → slice_get rows k ≡ Some r → among nat_lt k (numbers_from test 0 rows) ≡ false → test r ≡ false
  not_among rows k r at away = by_test (test r) (test r ≡ false)
      (λ passes.
      let start : 0 + k ≡ k = omega arith in
      false_true _ (sym away ∙ subst (λ m. among nat_lt m (numbers_from test 0 rows) ≡ true) start (from_first 0 rows k r at passes)))
      (λ fails. fails)

  -- none, where none passes
  pub no_numbers : ((r : R) → test r ≡ false) → (n : ℕ) (rows : List R) → numbers_from test n rows ≡ []
  no_numbers none n [] = refl
  no_numbers none n (r ∷ rows) = ap (λ b. if b then n ∷ numbers_from test (n + 1) rows else numbers_from test (n + 1) rows) (none r) ∙ no_numbers none (n + 1) rows

-- nothing is in a list of length 0
pub none_of_none : {X : Type 0} (test : X → Bool) (xs : List X) → length xs ≡ 0 → list_any test xs ≡ false
none_of_none test [] h = refl
none_of_none test (x ∷ xs) h = absurd (omega (arith, h))

pub none_kept : {X Y : Type 0} (f : X → Option Y) → ((x : X) → f x ≡ None) → (xs : List X) → filter_map f xs ≡ []
none_kept f none [] = refl
none_kept f none (x ∷ xs) = ap (λ o. cons_option o (filter_map f xs)) (none x) ∙ none_kept f none xs

-- ---- by what is in no set

pub on_none : (networks : Ident → Bool) → ((i : Ident) → networks i ≡ false) → (p : PortRow) → can_live_on networks p ≡ false
on_none networks none p = and_fails (can_live p) (networks p.network) (none p.network)

pub by_none : (routers : Ident → Bool) → ((i : Ident) → routers i ≡ false) → (f : FloatingRow) → is_by routers f ≡ false
by_none routers none f = go f.target
  where
    go : (o : Option Target) → (elim o [ None ↦ false | Some t ↦ routers t.router ]) ≡ false
    go None = refl
    go (Some t) = none t.router

pub in_none : (subnets : Ident → Bool) → ((i : Ident) → subnets i ≡ false) → (rows : RowLists) (routers : List RouterRow) (p : PortRow) → router_in subnets rows routers p ≡ None
in_none subnets none rows routers p =
    ap (λ b. if b then router_number rows routers p else None) (any-none (λ (f : Fixed). subnets f.subnet) p.fixed (λ k f at. none f.subnet))

-- what two additions come to
pub two_added : {X : Type 0} (xs : List X) (o p : Option X) → (xs ++ cons_option o []) ++ cons_option p [] ≡ xs ++ cons_option o (cons_option p [])
two_added {X} xs o p = append_assoc xs (cons_option o []) (cons_option p []) ∙ ap (λ ys. xs ++ ys) (go o)
  where
    go : (o : Option X) → cons_option o [] ++ cons_option p [] ≡ cons_option o (cons_option p [])
    go None = refl
    go (Some x) = refl
