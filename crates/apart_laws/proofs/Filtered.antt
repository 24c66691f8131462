-- A test that passes none of the rows that come, change or go sees no difference.
use Rattle.api_types.proofs.ListLemmas.{none_some, some_equal}
use Rattle.api_types.specs.Lists.{Each}
use Rattle.api_types.specs.declared.floating.FloatingRow.{FloatingRow}
use Rattle.row_laws.specs.OwnPorts.{freed_if}
use Rattle.std.proofs.Common.{Bool, List, Some, [], ap, append-nil, cond, false, if◌then◌else◌, map, not, refl, slice_get, slice_set, suc, sym, true, zero, ℕ, ◌++◌, ◌∙◌, ◌∷◌, ◌≡◌}
use Rattle.std.proofs.lemmas.List.Elements.{filter-append}
use Rattle.std.specs.List.{list_any}
use Rattle.std.specs.Prelude.{filter, ◌&&◌, ◌||◌}

module _ {R : Type 0} (keep : R → Bool) where
  pub left_off : (x : R) (xs : List R) → keep x ≡ false → filter keep (x ∷ xs) ≡ filter keep xs
  left_off x xs h = ap (λ b. cond b (x ∷ filter keep xs) (filter keep xs)) h

  pub others_pushed : (xs new : List R) → filter keep new ≡ [] → filter keep (xs ++ new) ≡ filter keep xs
  others_pushed xs new h = filter-append keep xs new ∙ (ap (λ ys. filter keep xs ++ ys) h ∙ append-nil (filter keep xs))

  pub one_pushed : (xs : List R) (x : R) → keep x ≡ false → filter keep (xs ++ x ∷ []) ≡ filter keep xs
  one_pushed xs x h = others_pushed xs (x ∷ []) (left_off x [] h)

  pub others_set : (xs : List R) (k : ℕ) (old new : R) → slice_get xs k ≡ Some old → keep old ≡ false → keep new ≡ false → filter keep (slice_set xs k new) ≡ filter keep xs
  others_set [] k old new at was is = none_some old _ at
  others_set (x ∷ xs) zero old new at was is = left_off new xs is ∙ sym (left_off x xs (ap keep (some_equal x old at) ∙ was))
  others_set (x ∷ xs) (suc k) old new at was is = ap (λ ys. cond (keep x) (x ∷ ys) ys) (others_set xs k old new at was is)

  -- rows that a change leaves as they were, if they pass at all
  pub others_changed : (f : R → R) (xs : List R) → Each (λ x. (keep (f x) ≡ keep x) × (keep x ≡ true → f x ≡ x)) xs → filter keep (map f xs) ≡ filter keep xs
  others_changed f [] h = refl
  others_changed f (x ∷ xs) h = by (keep x) refl (others_changed f xs (λ k y at. h (suc k) y at))
    where
      by : (b : Bool) → keep x ≡ b → filter keep (map f xs) ≡ filter keep xs → filter keep (f x ∷ map f xs) ≡ filter keep (x ∷ xs)
      by true e rest = (λ j. filter keep ((h 0 x refl).1 e j ∷ map f xs)) ∙ ap (λ ys. cond (keep x) (x ∷ ys) ys) rest
      by false e rest = left_off (f x) _ ((h 0 x refl).0 ∙ e) ∙ (rest ∙ sym (left_off x xs e))

  module _ (test : R → Bool) where
    pub others_put : (new : R) (xs : List R) → keep new ≡ false → Each (λ x. test x ≡ true → keep x ≡ false) xs → filter keep (map (λ x. if test x then new else x) xs) ≡ filter keep xs
    others_put new [] is h = refl
    others_put new (x ∷ xs) is h = by (test x) refl (others_put new xs is (λ k y at. h (suc k) y at))
      where
        by : (b : Bool) → test x ≡ b → filter keep (map (λ y. if test y then new else y) xs) ≡ filter keep xs
            → filter keep ((if b then new else x) ∷ map (λ y. if test y then new else y) xs) ≡ filter keep (x ∷ xs)
        by true e rest = left_off new _ is ∙ (rest ∙ sym (left_off x xs (h 0 x refl e)))
        by false e rest = ap (λ ys. cond (keep x) (x ∷ ys) ys) rest

    pub others_gone : (xs : List R) → Each (λ x. test x ≡ true → keep x ≡ false) xs → filter keep (filter (λ x. not (test x)) xs) ≡ filter keep xs
    others_gone [] h = refl
    others_gone (x ∷ xs) h = by (test x) refl (others_gone xs (λ k y at. h (suc k) y at))
      where
        by : (b : Bool) → test x ≡ b → filter keep (filter (λ y. not (test y)) xs) ≡ filter keep xs
            → filter keep (cond (not b) (x ∷ filter (λ y. not (test y)) xs) (filter (λ y. not (test y)) xs)) ≡ filter keep (x ∷ xs)
        by true e rest = rest ∙ sym (left_off x xs (h 0 x refl e))
        by false e rest = ap (λ ys. cond (keep x) (x ∷ ys) ys) rest

-- two tests one after the other, in either order
module _ {R : Type 0} where
  pub filter_turned : (p q : R → Bool) (xs : List R) → filter p (filter q xs) ≡ filter q (filter p xs)
  filter_turned p q [] = refl
  filter_turned p q (x ∷ xs) = by (p x) refl (q x) refl (filter_turned p q xs)
    where
      by : (a : Bool) → p x ≡ a → (b : Bool) → q x ≡ b → filter p (filter q xs) ≡ filter q (filter p xs)
          → filter p (cond b (x ∷ filter q xs) (filter q xs)) ≡ filter q (cond a (x ∷ filter p xs) (filter p xs))
      by true e true g h = ap (λ c. cond c (x ∷ filter p (filter q xs)) (filter p (filter q xs))) e ∙ (ap (λ ys. x ∷ ys) h ∙ sym (ap (λ c. cond c (x ∷ filter q (filter p xs)) (filter q (filter p xs))) g))
      by true e false g h = h ∙ sym (ap (λ c. cond c (x ∷ filter q (filter p xs)) (filter q (filter p xs))) g)
      by false e true g h = ap (λ c. cond c (x ∷ filter p (filter q xs)) (filter p (filter q xs))) e ∙ h
      by false e false g h = h

  pub filter_agree : (p q : R → Bool) (xs : List R) → Each (λ x. p x ≡ q x) xs → filter p xs ≡ filter q xs
  filter_agree p q [] e = refl
  filter_agree p q (x ∷ xs) e = λ j. cond (e 0 x refl j) (x ∷ filter_agree p q xs (λ k y at. e (suc k) y at) j) (filter_agree p q xs (λ k y at. e (suc k) y at) j)

  pub filter_then : (p q : R → Bool) (xs : List R) → filter p (filter q xs) ≡ filter (λ x. q x && p x) xs
  filter_then p q [] = refl
  filter_then p q (x ∷ xs) = by (q x) (filter_then p q xs)
    where
      by : (b : Bool) → filter p (filter q xs) ≡ filter (λ y. q y && p y) xs
          → filter p (cond b (x ∷ filter q xs) (filter q xs)) ≡ cond (b && p x) (x ∷ filter (λ y. q y && p y) xs) (filter (λ y. q y && p y) xs)
      by true h = ap (λ ys. cond (p x) (x ∷ ys) ys) h
      by false h = h

  pub all_stay : (xs : List R) → xs ≡ filter (λ x. true) xs
  all_stay [] = refl
  all_stay (x ∷ xs) = ap (λ ys. x ∷ ys) (all_stay xs)

  -- a test of some row, of changed rows and of one that is put
  pub any_mapped : (test : R → Bool) (f : R → R) (xs : List R) → Each (λ x. test (f x) ≡ test x) xs → list_any test (map f xs) ≡ list_any test xs
  any_mapped test f [] e = refl
  any_mapped test f (x ∷ xs) e = λ j. e 0 x refl j || any_mapped test f xs (λ k y at. e (suc k) y at) j

  pub any_gone : (keep test : R → Bool) (xs : List R) → Each (λ x. keep x ≡ false → test x ≡ false) xs → list_any test (filter keep xs) ≡ list_any test xs
  any_gone keep test [] e = refl
  any_gone keep test (x ∷ xs) e = by (keep x) refl (any_gone keep test xs (λ k y at. e (suc k) y at))
    where
      by : (b : Bool) → keep x ≡ b → list_any test (filter keep xs) ≡ list_any test xs → list_any test (cond b (x ∷ filter keep xs) (filter keep xs)) ≡ test x || list_any test xs
      by true g h = ap (λ c. test x || c) h
      by false g h = h ∙ sym (ap (λ c. c || list_any test xs) (e 0 x refl g))

-- floating addresses of which none is disassociated
pub none_freed : (fs : List FloatingRow) → fs ≡ map (λ f. freed_if false f) fs
none_freed [] = refl
none_freed (f ∷ fs) = ap (λ gs. f ∷ gs) (none_freed fs)

-- changed rows that pass as they did
pub filter_mapped : {R : Type 0} (keep : R → Bool) (f : R → R) (xs : List R) → ((x : R) → keep (f x) ≡ keep x) → filter keep (map f xs) ≡ map f (filter keep xs)
filter_mapped keep f [] same = refl
filter_mapped keep f (x ∷ xs) same = ap (λ b. cond b (f x ∷ filter keep (map f xs)) (filter keep (map f xs))) (same x) ∙ by (keep x) (filter_mapped keep f xs same)
  where
    by : (b : Bool) → filter keep (map f xs) ≡ map f (filter keep xs) → cond b (f x ∷ filter keep (map f xs)) (filter keep (map f xs)) ≡ map f (cond b (x ∷ filter keep xs) (filter keep xs))
    by true h = ap (λ ys. f x ∷ ys) h
    by false h = h
