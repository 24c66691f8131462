-- Edits of a list that stands in two parts.
use Rattle.std.proofs.Common.{◌≡◌, ◌∙◌, ◌⊎◌, inl, inr, ℕ, zero, suc, ◌+◌, ◌≤◌, ◌<◌, List, [], ◌∷◌, ◌++◌, length, refl, sym, ap, arith}
use Rattle.std.specs.Prelude.{insert, remove, reverse, slice_set}
use Rattle.std.proofs.lemmas.Bool.{cases_lt}
use Rattle.std.proofs.lemmas.List.{append-nil}

module _ {X : Type 0} where
  -- an edit in the first part
  insert_front : (xs ys : List X) (place : ℕ) (y : X) → place ≤ length xs
      → insert xs place y ++ ys ≡ insert (xs ++ ys) place y
  insert_front [] [] zero y h = refl
  insert_front [] (z ∷ ys) zero y h = refl
  insert_front [] ys (suc place) y h = absurd (omega (arith, h))
  insert_front (x ∷ xs) ys zero y h = refl
  insert_front (x ∷ xs) ys (suc place) y h =
      ap (λ l. x ∷ l) (insert_front xs ys place y (omega (arith, h)))

  remove_front : (xs ys : List X) (place : ℕ) → place < length xs
      → remove xs place ++ ys ≡ remove (xs ++ ys) place
  remove_front [] ys place h = absurd (omega (arith, h))
  remove_front (x ∷ xs) ys zero h = refl
  remove_front (x ∷ xs) ys (suc place) h =
      ap (λ l. x ∷ l) (remove_front xs ys place (omega (arith, h)))

  set_front : (xs ys : List X) (place : ℕ) (y : X) → place < length xs
      → slice_set xs place y ++ ys ≡ slice_set (xs ++ ys) place y
  set_front [] ys place y h = absurd (omega (arith, h))
  set_front (x ∷ xs) ys zero y h = refl
  set_front (x ∷ xs) ys (suc place) y h =
      ap (λ l. x ∷ l) (set_front xs ys place y (omega (arith, h)))

  -- with nothing after the first part
  alone : (f : List X → List X) (xs back : List X) → back ≡ []
      → f xs ++ reverse back ≡ f (xs ++ reverse back)
  alone f xs back none =
      (λ j. f xs ++ reverse (none j)) ∙ append-nil (f xs) ∙ ap f (sym (append-nil xs))
      ∙ (λ j. f (xs ++ reverse (sym none j)))

  -- the edits, where the first part reaches over the place or nothing is after it
  pub inserted : (xs back all : List X) (place : ℕ) (y : X)
      → (length xs < place → back ≡ []) → xs ++ reverse back ≡ all
      → insert xs place y ++ reverse back ≡ insert all place y
  inserted xs back all place y reached is = by (cases_lt (length xs) place)
      ∙ ap (λ l. insert l place y) is
    where
      by : ((length xs < place) ⊎ (place ≤ length xs))
          → insert xs place y ++ reverse back ≡ insert (xs ++ reverse back) place y
      by (inl past) = alone (λ l. insert l place y) xs back (reached past)
      by (inr within) = insert_front xs (reverse back) place y within

  pub removed : (xs back all : List X) (place : ℕ)
      → (length xs < place + 1 → back ≡ []) → xs ++ reverse back ≡ all
      → remove xs place ++ reverse back ≡ remove all place
  removed xs back all place reached is = by (cases_lt (length xs) (place + 1))
      ∙ ap (λ l. remove l place) is
    where
      by : ((length xs < place + 1) ⊎ (place + 1 ≤ length xs))
          → remove xs place ++ reverse back ≡ remove (xs ++ reverse back) place
      by (inl past) = alone (λ l. remove l place) xs back (reached past)
      by (inr within) = remove_front xs (reverse back) place (omega (arith, within))

  pub replaced : (xs back all : List X) (place : ℕ) (y : X)
      → (length xs < place + 1 → back ≡ []) → xs ++ reverse back ≡ all
      → slice_set xs place y ++ reverse back ≡ slice_set all place y
  replaced xs back all place y reached is = by (cases_lt (length xs) (place + 1))
      ∙ ap (λ l. slice_set l place y) is
    where
      by : ((length xs < place + 1) ⊎ (place + 1 ≤ length xs))
          → slice_set xs place y ++ reverse back ≡ slice_set (xs ++ reverse back) place y
      by (inl past) = alone (λ l. slice_set l place y) xs back (reached past)
      by (inr within) = set_front xs (reverse back) place y (omega (arith, within))

  -- a place in the list is in its first part then
  pub in_front : (xs back all : List X) (place : ℕ)
      → (length xs < place + 1 → back ≡ []) → xs ++ reverse back ≡ all → place < length all
      → place < length xs
  in_front xs back all place reached is h = by (cases_lt (length xs) (place + 1))
    where
      by : ((length xs < place + 1) ⊎ (place + 1 ≤ length xs)) → place < length xs
      by (inl past) =
          let whole : xs ≡ all = sym (append-nil xs)
          ∙ (λ j. xs ++ reverse (sym (reached past) j)) ∙ is in
          let long : length xs ≡ length all = ap length whole in omega (arith, long, h)
      by (inr within) = omega (arith, within)
