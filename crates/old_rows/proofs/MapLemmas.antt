-- What a test says of the images of a list's elements it says of the elements.
use Rattle.std.proofs.Common.{◌≡◌, ◌∙◌, ℕ, ◌+◌, zero, suc, List, [], ◌∷◌, Bool, true, cond, Option, None, Some, map, slice_get, refl, ap, sym, subst, arith}
use Rattle.std.specs.Prelude.{◌&&◌, ◌||◌, count_by, sum_by, option_map}
use Rattle.std.specs.List.{list_any, list_all}
use Rattle.std.proofs.lemmas.List.Sums.{sum_by-cons}
use Rattle.api_types.specs.Lists.{Each, Pass, if_some}

module _ {X Y : Type 0} (f : X → Y) where
  pub any-map : (p : Y → Bool) (q : X → Bool) → ((x : X) → p (f x) ≡ q x) → (xs : List X) → list_any p (map f xs) ≡ list_any q xs
  any-map p q same [] = refl
  any-map p q same (x ∷ xs) = λ j. same x j || any-map p q same xs j

  pub all-map : (p : Y → Bool) (q : X → Bool) → ((x : X) → p (f x) ≡ q x) → (xs : List X) → list_all p (map f xs) ≡ list_all q xs
  all-map p q same [] = refl
  all-map p q same (x ∷ xs) = λ j. same x j && all-map p q same xs j

  -- a test that all images pass
  pub all-passes : (p : Y → Bool) → ((x : X) → p (f x) ≡ true) → (xs : List X) → list_all p (map f xs) ≡ true
  all-passes p passes [] = refl
  all-passes p passes (x ∷ xs) = λ j. passes x j && all-passes p passes xs j

  pub sum-map : (p : Y → ℕ) (q : X → ℕ) → ((x : X) → p (f x) ≡ q x) → (xs : List X) → sum_by p (map f xs) ≡ sum_by q xs
  sum-map p q same [] = refl
  sum-map p q same (x ∷ xs) = omega (arith, sum_by-cons p (f x) (map f xs), sum_by-cons q x xs, same x, sum-map p q same xs)

  pub count-map : (p : Y → Bool) (q : X → Bool) → ((x : X) → p (f x) ≡ q x) → (xs : List X) → count_by p (map f xs) ≡ count_by q xs
  count-map p q same xs = sum-map (λ y. cond (p y) 1 0) (λ x. cond (q x) 1 0) (λ x. ap (λ b. cond b 1 0) (same x)) xs

  pub each-map : (P : X → Type 0) (Q : Y → Type 0) → ((x : X) → P x → Q (f x)) → (xs : List X) → Each P xs → Each Q (map f xs)
  each-map P Q step [] all k y at = cc
  each-map P Q step (x ∷ xs) all zero y at = let same : f x ≡ y = cc in subst Q same (step x (all zero x refl))
  each-map P Q step (x ∷ xs) all (suc k) y at = each-map P Q step xs (λ i z h. all (suc i) z h) k y at

  pub pass-map : (p : Y → Bool) (q : X → Bool) → ((x : X) → p (f x) ≡ q x) → (xs : List X) → Pass q xs → Pass p (map f xs)
  pass-map p q same xs = each-map (λ x. q x ≡ true) (λ y. p y ≡ true) (λ x h. same x ∙ h) xs

  pub some-map : (p : Y → Bool) (q : X → Bool) → ((x : X) → p (f x) ≡ q x) → (o : Option X) → if_some p (option_map f o) ≡ if_some q o
  some-map p q same None = refl
  some-map p q same (Some x) = same x

-- two tests of which one holds where the other does
pub pass-agree : {X : Type 0} (p q : X → Bool) → ((x : X) → p x ≡ q x) → (xs : List X) → Pass q xs → Pass p xs
pass-agree p q same xs all = λ k x at. same x ∙ all k x at

pub if_some-agree : {X : Type 0} (p q : X → Bool) → ((x : X) → p x ≡ q x) → (o : Option X) → if_some p o ≡ if_some q o
if_some-agree p q same None = refl
if_some-agree p q same (Some x) = same x

pub all-agree : {X : Type 0} (p q : X → Bool) → ((x : X) → p x ≡ q x) → (xs : List X) → list_all p xs ≡ list_all q xs
all-agree p q same [] = refl
all-agree p q same (x ∷ xs) = λ j. same x j && all-agree p q same xs j
