-- Facts on each item of a list that is made of another.
use Rattle.std.proofs.Common.{◌≡◌, ℕ, zero, suc, ◌+◌, List, [], ◌∷◌, Bool, cond, refl, sym, subst, ◌∙◌, map}
use Rattle.std.specs.Prelude.{count_by}
use Rattle.std.proofs.lemmas.List.Sums.{sum_by-cons}
use Rattle.api_types.specs.Lists.{Each}
use Rattle.api_types.proofs.ListLemmas.{none_some, some_equal}

pub each_map : {S T : Type 0} (f : S → T) (P : T → Type 0) (xs : List S) → Each (λ x. P (f x)) xs → Each P (map f xs)
each_map f P [] each k y at = none_some y _ at
each_map f P (x ∷ xs) each zero y at = subst P (some_equal (f x) y at) (each 0 x refl)
each_map f P (x ∷ xs) each (suc k) y at = each_map f P xs (λ i a h. each (suc i) a h) k y at

pub map_each : {S T : Type 0} (f : S → T) (P : T → Type 0) (xs : List S) → Each P (map f xs) → Each (λ x. P (f x)) xs
map_each f P [] each k y at = none_some y _ at
map_each f P (x ∷ xs) each zero y at = subst (λ z. P (f z)) (some_equal x y at) (each 0 (f x) refl)
map_each f P (x ∷ xs) each (suc k) y at = map_each f P xs (λ i a h. each (suc i) a h) k y at

-- what is seen of each item stays
pub map_same : {S T : Type 0} (g : S → T) (f : S → S) (xs : List S) → ((x : S) → g (f x) ≡ g x) → map g (map f xs) ≡ map g xs
map_same g f [] same = refl
map_same g f (x ∷ xs) same = λ j. same x j ∷ map_same g f xs same j

pub map_map : {S T U : Type 0} (g : T → U) (f : S → T) (xs : List S) → map g (map f xs) ≡ map (λ x. g (f x)) xs
map_map g f [] = refl
map_map g f (x ∷ xs) = λ j. g (f x) ∷ map_map g f xs j

pub count_map : {S T : Type 0} (test : T → Bool) (f : S → T) (xs : List S) → count_by test (map f xs) ≡ count_by (λ x. test (f x)) xs
count_map test f [] = refl
count_map test f (x ∷ xs) =
    sum_by-cons (λ y. cond {A = ℕ} (test y) 1 0) (f x) (map f xs)
    ∙ (λ j. cond {A = ℕ} (test (f x)) 1 0 + count_map test f xs j)
    ∙ sym (sum_by-cons (λ z. cond {A = ℕ} (test (f z)) 1 0) x xs)
