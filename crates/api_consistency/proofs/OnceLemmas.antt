-- What is distinct is held once.
use Rattle.std.proofs.Common.{◌≡◌, ◌≤◌, ◌∙◌, ℕ, suc, ◌+◌, List, [], ◌∷◌, Bool, true, false, cond, map, refl, ap, sym, arith, flat_map}
use Rattle.std.specs.Prelude.{◌||◌, count_by, sum_by}
use Rattle.std.specs.List.{IsDistinct, AllByRecursion, list_any}
use Rattle.std.proofs.lemmas.List.Sums.{sum_by-cons, sum_by-append}
use Rattle.api_types.specs.Lists.{Each}
use Rattle.api_types.proofs.ListLemmas.{false_true}
use Rattle.api_types.proofs.NameLemmas.{by_test}

-- a test that passes counts one, and one that fails none
pub counts_one : {X : Type 0} (test : X → Bool) (x : X) (xs : List X) → test x ≡ true → count_by test (x ∷ xs) ≡ 1 + count_by test xs
counts_one test x xs e =
    let one : cond {A = ℕ} (test x) 1 0 ≡ 1 = ap (λ (b : Bool). cond {A = ℕ} b 1 0) e in
    omega (arith, sum_by-cons (λ y. cond {A = ℕ} (test y) 1 0) x xs, one)

pub counts_none : {X : Type 0} (test : X → Bool) (x : X) (xs : List X) → test x ≡ false → count_by test (x ∷ xs) ≡ count_by test xs
counts_none test x xs e =
    let zero : cond {A = ℕ} (test x) 1 0 ≡ 0 = ap (λ (b : Bool). cond {A = ℕ} b 1 0) e in
    omega (arith, sum_by-cons (λ y. cond {A = ℕ} (test y) 1 0) x xs, zero)

-- rows whose keys are distinct: at most one passes a test, where any two that pass have equal keys
module _ {R S : Type 0} (equal : S → S → Bool) (key : R → S) (test : R → Bool) (same : (x y : R) → test x ≡ true → test y ≡ true → equal (key x) (key y) ≡ true) where
  none_more : (x : R) → test x ≡ true → (ys : List R) → AllByRecursion (λ s. equal (key x) s ≡ false) (map key ys) → count_by test ys ≡ 0
  none_more x t [] all = refl
  none_more x t (y ∷ ys) all =
      by_test (test y) (count_by test (y ∷ ys) ≡ 0)
      (λ passes. false_true _ (sym all.0 ∙ same x y t passes))
      (λ fails. counts_none test y ys fails ∙ none_more x t ys all.1)

  pub once : (xs : List R) → IsDistinct equal (map key xs) → count_by test xs ≤ 1
  unfolding IsDistinct
  once [] h = omega arith
  once (x ∷ xs) h =
      by_test (test x) (count_by test (x ∷ xs) ≤ 1)
      (λ passes. omega (arith, counts_one test x xs passes, none_more x passes xs h.0))
      (λ fails. omega (arith, counts_none test x xs fails, once xs h.1))

-- the same of the keys themselves
module _ {S : Type 0} (equal : S → S → Bool) (test : S → Bool) (same : (x y : S) → test x ≡ true → test y ≡ true → equal x y ≡ true) where
  none_other : (x : S) → test x ≡ true → (ys : List S) → AllByRecursion (λ s. equal x s ≡ false) ys → count_by test ys ≡ 0
  none_other x t [] all = refl
  none_other x t (y ∷ ys) all =
      by_test (test y) (count_by test (y ∷ ys) ≡ 0)
      (λ passes. false_true _ (sym all.0 ∙ same x y t passes))
      (λ fails. counts_none test y ys fails ∙ none_other x t ys all.1)

  pub key_once : (xs : List S) → IsDistinct equal xs → count_by test xs ≤ 1
  unfolding IsDistinct
  key_once [] h = omega arith
  key_once (x ∷ xs) h =
      by_test (test x) (count_by test (x ∷ xs) ≤ 1)
      (λ passes. omega (arith, counts_one test x xs passes, none_other x passes xs h.0))
      (λ fails. omega (arith, counts_none test x xs fails, key_once xs h.1))

-- what rows weigh, by the keys that each gives
pub weighed : {R S : Type 0} (weight : R → ℕ) (keys_of : R → List S) (test : S → Bool) → ((x : R) → weight x ≤ count_by test (keys_of x)) → (xs : List R)
    → sum_by weight xs ≤ count_by test (flat_map keys_of xs)
weighed weight keys_of test each [] = omega arith
weighed weight keys_of test each (x ∷ xs) =
    omega (arith, sum_by-cons weight x xs, sum_by-append (λ s. cond {A = ℕ} (test s) 1 0) (keys_of x) (flat_map keys_of xs), each x, weighed weight keys_of test each xs)

-- counted by rows, and by their keys
pub counted : {R S : Type 0} (key : R → S) (p : R → Bool) (test : S → Bool) → ((x : R) → p x ≡ true → test (key x) ≡ true) → (xs : List R) → count_by p xs ≤ count_by test (map key xs)
counted key p test each [] = omega arith
counted key p test each (x ∷ xs) =
    let rest = counted key p test each xs in
    let more : count_by test (map key xs) ≤ count_by test (key x ∷ map key xs) = omega (arith, sum_by-cons (λ s. cond {A = ℕ} (test s) 1 0) (key x) (map key xs)) in
    by_test (p x) (count_by p (x ∷ xs) ≤ count_by test (map key (x ∷ xs)))
    (λ passes. omega (arith, counts_one p x xs passes, counts_one test (key x) (map key xs) (each x passes), rest))
    (λ fails. omega (arith, counts_none p x xs fails, rest, more))

-- a test that is weaker on the rows counts no fewer
pub count-weaker : {X : Type 0} (p q : X → Bool) (xs : List X) → Each (λ x. p x ≡ true → q x ≡ true) xs → count_by p xs ≤ count_by q xs
count-weaker p q [] w = omega arith
count-weaker p q (x ∷ xs) w =
    let rest = count-weaker p q xs (λ k y at. w (suc k) y at) in
    let more : count_by q xs ≤ count_by q (x ∷ xs) = omega (arith, sum_by-cons (λ s. cond {A = ℕ} (q s) 1 0) x xs) in
    by_test (p x) (count_by p (x ∷ xs) ≤ count_by q (x ∷ xs))
    (λ passes. omega (arith, counts_one p x xs passes, counts_one q x xs (w 0 x refl passes), rest))
    (λ fails. omega (arith, counts_none p x xs fails, rest, more))

-- what is found is counted
pub any_counts : {X : Type 0} (test : X → Bool) (xs : List X) → list_any test xs ≡ true → 1 ≤ count_by test xs
any_counts test [] h = false_true _ h
any_counts test (x ∷ xs) h =
    by_test (test x) (1 ≤ count_by test (x ∷ xs))
    (λ passes. omega (arith, counts_one test x xs passes))
    (λ fails. omega (arith, counts_none test x xs fails, any_counts test xs (ap (λ b. b || list_any test xs) (sym fails) ∙ h)))
