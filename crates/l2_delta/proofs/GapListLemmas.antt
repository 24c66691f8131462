-- Edits of a list that stands in two parts, with the gap at their place.
use Rattle.std.proofs.Common.{◌≡◌, ◌∙◌, ◌⊎◌, inl, inr, ℕ, zero, suc, ◌+◌, ◌≤◌, ◌<◌, List, [], ◌∷◌, ◌++◌, length, refl, sym, ap, arith, Option, Some, None, slice_get}
use Rattle.std.specs.Prelude.{insert, option_to_list, remove, reverse}
use Rattle.std.proofs.lemmas.Bool.{cases_lt}
use Rattle.std.proofs.lemmas.Option.{none-some}
use Rattle.std.proofs.lemmas.List.{append-nil, length-append, reverse-append}

nat_same : {m n : ℕ} → m ≤ n → n ≤ m → m ≡ n
nat_same h k = omega (arith, h, k)

module _ {X : Type 0} where
  -- at the gap: what stands first after it goes
  first_goes : (front ys : List X) (x : X) → remove (front ++ x ∷ ys) (length front) ≡ front ++ ys
  first_goes [] ys x = refl
  first_goes (f ∷ front) ys x = ap (λ l. f ∷ l) (first_goes front ys x)

  first_is : (front ys : List X) (x : X) → slice_get (front ++ x ∷ ys) (length front) ≡ Some x
  first_is [] ys x = refl
  first_is (f ∷ front) ys x = first_is front ys x

  first_comes : (front ys : List X) (x : X)
      → insert (front ++ ys) (length front) x ≡ (front ++ x ∷ []) ++ ys
  first_comes [] ys x = refl
  first_comes (f ∷ front) ys x = ap (λ l. f ∷ l) (first_comes front ys x)

  -- past the end
  none_goes : (front : List X) (place : ℕ) → length front ≤ place → remove front place ≡ front
  none_goes [] zero h = refl
  none_goes [] (suc place) h = refl
  none_goes (f ∷ front) zero h = absurd (omega (arith, h))
  none_goes (f ∷ front) (suc place) h = ap (λ l. f ∷ l) (none_goes front place (omega (arith, h)))

  none_is : (front : List X) (place : ℕ) → length front ≤ place → slice_get front place ≡ None
  none_is [] zero h = refl
  none_is [] (suc place) h = refl
  none_is (f ∷ front) zero h = absurd (omega (arith, h))
  none_is (f ∷ front) (suc place) h = none_is front place (omega (arith, h))

  comes_last : (front : List X) (place : ℕ) (x : X) → length front ≤ place
      → insert front place x ≡ front ++ x ∷ []
  comes_last [] zero x h = refl
  comes_last [] (suc place) x h = refl
  comes_last (f ∷ front) zero x h = absurd (omega (arith, h))
  comes_last (f ∷ front) (suc place) x h =
      ap (λ l. f ∷ l) (comes_last front place x (omega (arith, h)))

  -- what stands at the gap: it is aside, or the gap is past the end
  -- with nothing aside, an edit of the first part is one of the list
  alone : {A : Type 0} (f : List X → A) (front back : List X) → back ≡ []
      → f front ≡ f (front ++ reverse back)
  alone f front back none =
      ap f (sym (append-nil front)) ∙ (λ j. f (front ++ reverse (sym none j)))

  turned : (back rest : List X) (x : X) → back ≡ rest ++ x ∷ [] → reverse back ≡ x ∷ reverse rest
  turned back rest x out = ap reverse out ∙ reverse-append rest (x ∷ [])

  not_none : (rest : List X) (x : X) → [] ≡ rest ++ x ∷ [] → {P : Type 0} → P
  not_none rest x bad =
      let long : 0 ≡ length (rest ++ x ∷ []) = ap length bad in
      absurd (omega (arith, long, length-append rest (x ∷ [])))

  pub taken : (front back rest all : List X) (o : Option X) (place : ℕ) → length front ≤ place
      → (length front < place → back ≡ []) → front ++ reverse back ≡ all
      → back ≡ rest ++ option_to_list o → (o ≡ None → back ≡ [])
      → (front ++ reverse rest ≡ remove all place) × (o ≡ slice_get all place)
  taken front back rest all None place most reached is out none =
      let nothing = none refl in
      let left : rest ≡ back = sym (append-nil rest) ∙ sym out in (
        (λ j. front ++ reverse (left j)) ∙ sym (alone (λ l. l) front back nothing)
            ∙ sym (none_goes front place most) ∙ alone (λ l. remove l place) front back nothing
            ∙ ap (λ l. remove l place) is,
        sym (none_is front place most) ∙ alone (λ l. slice_get l place) front back nothing
            ∙ ap (λ l. slice_get l place) is,
      )
  taken front back rest all (Some x) place most reached is out none =
      by (cases_lt (length front) place)
    where
      by : ((length front < place) ⊎ (place ≤ length front))
          → (front ++ reverse rest ≡ remove all place) × (Some x ≡ slice_get all place)
      by (inl past) = not_none rest x (sym (reached past) ∙ out)
      by (inr within) =
          let at : length front ≡ place = nat_same most within in
          let whole : front ++ x ∷ reverse rest ≡ all =
          ap (λ l. front ++ l) (sym (turned back rest x out)) ∙ is in (
            sym (first_goes front (reverse rest) x) ∙ (λ j. remove (whole j) (at j)),
            sym (first_is front (reverse rest) x) ∙ (λ j. slice_get (whole j) (at j)),
          )

  pub put_in : (front back all : List X) (place : ℕ) (x : X) → length front ≤ place
      → (length front < place → back ≡ []) → front ++ reverse back ≡ all
      → (front ++ x ∷ []) ++ reverse back ≡ insert all place x
  put_in front back all place x most reached is = by (cases_lt (length front) place)
      ∙ ap (λ l. insert l place x) is
    where
      by : ((length front < place) ⊎ (place ≤ length front))
          → (front ++ x ∷ []) ++ reverse back ≡ insert (front ++ reverse back) place x
      by (inl past) =
          (λ j. (front ++ x ∷ []) ++ reverse (reached past j)) ∙ append-nil (front ++ x ∷ [])
          ∙ sym (comes_last front place x most)
          ∙ alone (λ l. insert l place x) front back (reached past)
      by (inr within) =
          sym (first_comes front (reverse back) x)
          ∙ ap (λ n. insert (front ++ reverse back) n x) (nat_same most within)

  -- nothing goes from a place past the end
  pub none_there : (all : List X) (place : ℕ) → slice_get all place ≡ None → remove all place ≡ all
  none_there [] zero h = refl
  none_there [] (suc place) h = refl
  none_there (x ∷ all) zero h = absurd (none-some x (sym h))
  none_there (x ∷ all) (suc place) h = ap (λ l. x ∷ l) (none_there all place h)
