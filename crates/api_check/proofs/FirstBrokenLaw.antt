-- No clause is broken exactly where each holds.
use Rattle.std.proofs.Common.{◌≡◌, ℕ, ◌+◌, ◌<◌, ◌≤◌, zero, suc, List, [], ◌∷◌, Bool, true, false, cond, Option, Some, None, length, slice_get, refl, ap, sym, ◌∙◌, arith}
use Rattle.std.specs.Prelude.{◌==◌, not, nat_le, count_by, find, option_map, option_and_then}
use Rattle.std.specs.List.{list_any, AllByRecursion}
use Rattle.std.proofs.lemmas.Bool.Decides.{nat_tests}
use Rattle.api_types.specs.Ident.{Ident}
use Rattle.api_types.specs.Lists.{Pass}
use Rattle.api_types.specs.declared.kind.Kind.{Kind}
use Rattle.api_check.specs.declared.broken.Inconsistent.{Inconsistent}
use Rattle.api_check.specs.Broken.{told, told_at, breaks, first_some, first_place}
use Rattle.api_types.proofs.ListLemmas.{none_some, some_equal, any-at, none-any, count-none}
use Rattle.api_types.proofs.NameLemmas.{by_test}

pub at_most : (a b : ℕ) → nat_le a b ≡ true → a ≤ b
at_most a b h = grind (arith, nat_tests)

pub is_at_most : (a b : ℕ) → a ≤ b → nat_le a b ≡ true
is_at_most a b h = grind (arith, nat_tests)

pub equal_to : (a b : ℕ) → (a == b) ≡ true → a ≡ b
equal_to a b h = grind (arith, nat_tests)

pub is_equal_to : (a b : ℕ) → a ≡ b → (a == b) ≡ true
is_equal_to a b h = grind (arith, nat_tests)

-- nothing is first exactly where nothing is there
pub all_none : {X : Type 0} (os : List (Option X)) → first_some os ≡ None → AllByRecursion (λ o. o ≡ None) os
unfolding first_some
all_none [] h = tt
all_none (None ∷ rest) h = (refl, all_none rest h)
all_none (Some x ∷ rest) h = cc

pub none_all : {X : Type 0} (os : List (Option X)) → AllByRecursion (λ o. o ≡ None) os → first_some os ≡ None
unfolding first_some
none_all [] all = refl
none_all (o ∷ rest) all = ap (λ o. first_some (o ∷ rest)) all.0 ∙ none_all rest all.1

map_none : {X Y : Type 0} (f : X → Y) (o : Option X) → option_map f o ≡ None → o ≡ None
map_none f None h = refl
map_none f (Some x) h = cc

-- each row passes where no place fails, and back
module _ {R : Type 0} where
  pub no_place_passes : (test : ℕ → R → Bool) (k : ℕ) (xs : List R) → first_place test k xs ≡ None → (i : ℕ) (x : R) → slice_get xs i ≡ Some x → test (k + i) x ≡ true
  unfolding first_place
  no_place_passes test k [] h i x at = none_some x _ at
  no_place_passes test k (a ∷ xs) h i x at = by (test k a) refl h i at (no_place_passes test (k + 1) xs)
    where
      here : (b : Bool) → test k a ≡ b → b ≡ true → a ≡ x → test (k + 0) x ≡ true
      here b e t same = let z : k + 0 ≡ k = omega arith in (λ j. test (z j) (sym same j)) ∙ (e ∙ t)

      by : (b : Bool) → test k a ≡ b → cond b (first_place test (k + 1) xs) (Some k) ≡ None → (i : ℕ) → slice_get (a ∷ xs) i ≡ Some x
          → (first_place test (k + 1) xs ≡ None → (i : ℕ) (x : R) → slice_get xs i ≡ Some x → test ((k + 1) + i) x ≡ true) → test (k + i) x ≡ true
      by false e h i at rest = cc
      by true e h zero at rest = here true e refl (some_equal a x at)
      by true e h (suc i) at rest = let z : k + suc i ≡ (k + 1) + i = omega arith in ap (λ n. test n x) z ∙ rest h i x at

  pub passes_no_place : (test : ℕ → R → Bool) (k : ℕ) (xs : List R) → ((i : ℕ) (x : R) → slice_get xs i ≡ Some x → test (k + i) x ≡ true) → first_place test k xs ≡ None
  unfolding first_place
  passes_no_place test k [] all = refl
  passes_no_place test k (a ∷ xs) all =
      let here : test k a ≡ true = let z : k ≡ k + 0 = omega arith in ap (λ n. test n a) z ∙ all 0 a refl in
      ap (λ b. cond b (first_place test (k + 1) xs) (Some k)) here
      ∙ passes_no_place test (k + 1) xs (λ i x at. let z : (k + 1) + i ≡ k + suc i = omega arith in ap (λ n. test n x) z ∙ all (suc i) x at)

  -- a place that is found is one of the list's
  pub place_within : (test : ℕ → R → Bool) (k : ℕ) (xs : List R) (n : ℕ) → first_place test k xs ≡ Some n → (k ≤ n) × (n < k + length xs)
  unfolding first_place
  place_within test k [] n h = none_some n _ h
  place_within test k (a ∷ xs) n h = by (test k a) h (place_within test (k + 1) xs n)
    where
      by : (b : Bool) → cond b (first_place test (k + 1) xs) (Some k) ≡ Some n → (first_place test (k + 1) xs ≡ Some n → (k + 1 ≤ n) × (n < (k + 1) + length xs)) → (k ≤ n) × (n < k + suc (length xs))
      by true h rest = let r = rest h in (omega (arith, r.0), omega (arith, r.1))
      by false h rest = let e : k ≡ n = some_equal k n h in (omega arith, omega arith)

  pub there : (xs : List R) (n : ℕ) → n < length xs → (x : R) × (slice_get xs n ≡ Some x)
  there [] n h = absurd (omega (arith, h))
  there (a ∷ xs) zero h = (a, refl)
  there (a ∷ xs) (suc n) h = there xs n (omega (arith, h))

  -- what is told of a place within is something
  pub told_within : (rule : ℕ) (kind : Kind) (id_of : R → Ident) (xs : List R) (o : Option ℕ) → ((n : ℕ) → o ≡ Some n → n < length xs) → told_at rule kind id_of xs o ≡ None → o ≡ None
  unfolding told_at told
  told_within rule kind id_of xs None within h = refl
  told_within rule kind id_of xs (Some n) within h =
      let r = there xs n (within n refl) in
      none_some _ _ (sym (map_none {Y = Inconsistent} (λ x. record { rule = rule; kind = kind; id = id_of x }) (slice_get xs n) h) ∙ r.1)

  pub told_none : (rule : ℕ) (kind : Kind) (id_of : R → Ident) (xs : List R) (o : Option ℕ) → o ≡ None → told_at rule kind id_of xs o ≡ None
  unfolding told_at told
  told_none rule kind id_of xs o e = ap (λ p. option_map {U = Inconsistent} (λ x. record { rule = rule; kind = kind; id = id_of x }) (option_and_then (slice_get xs) p)) e

  pub placed_none : (rule : ℕ) (kind : Kind) (id_of : R → Ident) (test : ℕ → R → Bool) (xs : List R) → told_at rule kind id_of xs (first_place test 0 xs) ≡ None
      → (i : ℕ) (x : R) → slice_get xs i ≡ Some x → test i x ≡ true
  placed_none rule kind id_of test xs h i x at =
      let z : i ≡ 0 + i = omega arith in
      ap (λ n. test n x) z ∙ no_place_passes test 0 xs (told_within rule kind id_of xs (first_place test 0 xs) (λ n e. let w = place_within test 0 xs n e in omega (arith, w.1)) h) i x at

  pub none_placed : (rule : ℕ) (kind : Kind) (id_of : R → Ident) (test : ℕ → R → Bool) (xs : List R) → ((i : ℕ) (x : R) → slice_get xs i ≡ Some x → test i x ≡ true)
      → told_at rule kind id_of xs (first_place test 0 xs) ≡ None
  none_placed rule kind id_of test xs all = told_none rule kind id_of xs (first_place test 0 xs) (passes_no_place test 0 xs (λ i x at. let z : 0 + i ≡ i = omega arith in ap (λ n. test n x) z ∙ all i x at))

  -- no row fails exactly where each passes
  none_fails : (test : R → Bool) (xs : List R) → find (λ r. not (test r)) xs ≡ None → Pass test xs
  none_fails test [] h i x at = none_some x _ at
  none_fails test (a ∷ xs) h i x at = by (test a) refl h i at (none_fails test xs)
    where
      by : (b : Bool) → test a ≡ b → cond (not b) (Some a) (find (λ r. not (test r)) xs) ≡ None → (i : ℕ) → slice_get (a ∷ xs) i ≡ Some x
          → (find (λ r. not (test r)) xs ≡ None → (i : ℕ) (x : R) → slice_get xs i ≡ Some x → test x ≡ true) → test x ≡ true
      by false e h i at rest = cc
      by true e h zero at rest = ap test (sym (some_equal a x at)) ∙ e
      by true e h (suc i) at rest = rest h i x at

  all_pass : (test : R → Bool) (xs : List R) → Pass test xs → find (λ r. not (test r)) xs ≡ None
  all_pass test [] all = refl
  all_pass test (a ∷ xs) all = ap (λ b. cond (not b) (Some a) (find (λ r. not (test r)) xs)) (all 0 a refl) ∙ all_pass test xs (λ i x at. all (suc i) x at)

  pub breaks-none : (rule : ℕ) (kind : Kind) (id_of : R → Ident) (test : R → Bool) (xs : List R) → breaks rule kind id_of test xs ≡ None → Pass test xs
  unfolding breaks told
  breaks-none rule kind id_of test xs h = none_fails test xs (map_none {Y = Inconsistent} (λ r. record { rule = rule; kind = kind; id = id_of r }) (find (λ r. not (test r)) xs) h)

  pub pass-breaks : (rule : ℕ) (kind : Kind) (id_of : R → Ident) (test : R → Bool) (xs : List R) → Pass test xs → breaks rule kind id_of test xs ≡ None
  unfolding breaks told
  pass-breaks rule kind id_of test xs all = ap (option_map {U = Inconsistent} (λ r. record { rule = rule; kind = kind; id = id_of r })) (all_pass test xs all)

  -- a value is held at most once, where each row's own value is
  pub once_by_rows : {K : Type 0} (key : R → K) (test : K → R → Bool) → ((k : K) (r : R) → test k r ≡ true → k ≡ key r) → (xs : List R)
      → Pass (λ r. nat_le (count_by (test (key r)) xs) 1) xs → (k : K) → count_by (test k) xs ≤ 1
  once_by_rows key test sound xs pass k =
      by_test (list_any (test k) xs) (count_by (test k) xs ≤ 1)
      (λ found. let r = any-at (test k) xs found in
      at_most (count_by (test k) xs) 1 (ap (λ x. nat_le (count_by (test x) xs) 1) (sound k r.1 r.3) ∙ pass r.0 r.1 r.2))
      (λ fails. let zeros : count_by (test k) xs ≡ 0 = count-none (test k) xs (none-any (test k) xs fails) in omega arith)
