-- Two places of distinct stretches, and stretches that are somewhere among those that rows give.
use Rattle.std.proofs.Common.{◌≡◌, ◌∙◌, ◌++◌, ℕ, zero, suc, List, [], ◌∷◌, Bool, false, Option, None, Some, map, refl, ap, sym, subst, slice_get, flat_map}
use Rattle.std.specs.List.{IsDistinct, AllByRecursion, cons_option, filter_map}
use Rattle.api_types.proofs.ListLemmas.{none_some, some_equal}

module _ {X : Type 0} where
  all_at : (P : X → Type 0) (xs : List X) → AllByRecursion P xs → (k : ℕ) (x : X) → slice_get xs k ≡ Some x → P x
  all_at P [] all k x at = none_some x _ at
  all_at P (a ∷ xs) all zero x at = subst P (some_equal a x at) all.0
  all_at P (a ∷ xs) all (suc k) x at = all_at P xs all.1 k x at

  -- at two places of a distinct list there are no equal ones
  pub apart_at : (equal : X → X → Bool) → ((x y : X) → equal x y ≡ equal y x) → (xs : List X) → IsDistinct equal xs
      → (j k : ℕ) (x y : X) → slice_get xs j ≡ Some x → slice_get xs k ≡ Some y → (j ≡ k → equal x y ≡ false) → equal x y ≡ false
  unfolding IsDistinct
  apart_at equal flips [] h j k x y at_x at_y alike = none_some x _ at_x
  apart_at equal flips (a ∷ xs) h zero zero x y at_x at_y alike = alike refl
  apart_at equal flips (a ∷ xs) h zero (suc k) x y at_x at_y alike = ap (λ z. equal z y) (sym (some_equal a x at_x)) ∙ all_at (λ z. equal a z ≡ false) xs h.0 k y at_y
  apart_at equal flips (a ∷ xs) h (suc j) zero x y at_x at_y alike = flips x y ∙ (ap (λ z. equal z x) (sym (some_equal a y at_y)) ∙ all_at (λ z. equal a z ≡ false) xs h.0 j x at_x)
  apart_at equal flips (a ∷ xs) h (suc j) (suc k) x y at_x at_y alike = apart_at equal flips xs h.1 j k x y at_x at_y (λ e. alike (ap suc e))

  in_left : (x : X) (xs ys : List X) (k : ℕ) → slice_get xs k ≡ Some x → (j : ℕ) × (slice_get (xs ++ ys) j ≡ Some x)
  in_left x [] ys k at = none_some x _ at
  in_left x (a ∷ xs) ys zero at = (0, at)
  in_left x (a ∷ xs) ys (suc k) at = let r = in_left x xs ys k at in (suc r.0, r.1)

  in_right : (x : X) (xs ys : List X) (k : ℕ) → slice_get ys k ≡ Some x → (j : ℕ) × (slice_get (xs ++ ys) j ≡ Some x)
  in_right x [] ys k at = (k, at)
  in_right x (a ∷ xs) ys k at = let r = in_right x xs ys k at in (suc r.0, r.1)

pub map_at : {R S : Type 0} (f : R → S) (xs : List R) (k : ℕ) (x : R) → slice_get xs k ≡ Some x → slice_get (map f xs) k ≡ Some (f x)
map_at f [] k x at = none_some x _ at
map_at f (a ∷ xs) zero x at = ap (λ y. Some (f y)) (some_equal a x at)
map_at f (a ∷ xs) (suc k) x at = map_at f xs k x at

pub in_flat : {R S : Type 0} (f : R → List S) (xs : List R) (k : ℕ) (x : R) → slice_get xs k ≡ Some x → (l : ℕ) (s : S) → slice_get (f x) l ≡ Some s
    → (j : ℕ) × (slice_get (flat_map f xs) j ≡ Some s)
in_flat f [] k x at l s at_s = none_some x _ at
in_flat f (a ∷ xs) zero x at l s at_s = in_left s (f a) (flat_map f xs) l (ap (λ y. slice_get (f y) l) (some_equal a x at) ∙ at_s)
in_flat f (a ∷ xs) (suc k) x at l s at_s = let r = in_flat f xs k x at l s at_s in in_right s (f a) (flat_map f xs) r.0 r.1

pub in_some : {R S : Type 0} (f : R → Option S) (xs : List R) (k : ℕ) (x : R) → slice_get xs k ≡ Some x → (s : S) → f x ≡ Some s → (j : ℕ) × (slice_get (filter_map f xs) j ≡ Some s)
in_some f [] k x at s is = none_some x _ at
in_some f (a ∷ xs) zero x at s is = (0, ap (λ o. slice_get (cons_option o (filter_map f xs)) 0) (ap f (some_equal a x at) ∙ is))
in_some f (a ∷ xs) (suc k) x at s is = let r = in_some f xs k x at s is in beyond (f a) r.0 r.1
  where
    beyond : (o : Option _) (j : ℕ) → slice_get (filter_map f xs) j ≡ Some s → (i : ℕ) × (slice_get (cons_option o (filter_map f xs)) i ≡ Some s)
    beyond None j h = (j, h)
    beyond (Some y) j h = (suc j, h)
