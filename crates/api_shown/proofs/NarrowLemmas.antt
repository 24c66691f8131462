-- Lists by one id.
use Rattle.std.proofs.Common.{◌≡◌, ◌∙◌, ℕ, zero, suc, List, [], ◌∷◌, Bool, true, false, cond, Option, None, Some, map, drop, take, slice_get, refl, ap, sym, subst}
use Rattle.std.specs.Prelude.{is_some}
use Rattle.std.specs.List.{AllByRecursion, IsDistinct, filter}
use Rattle.api_types.specs.Ident.{Ident}
use Rattle.api_types.specs.Lists.{Each}
use Rattle.api_types.specs.Table.{HaveOwnIds, ident_eq, row_of}
use Rattle.api_types.proofs.ListLemmas.{false_true, none_some, some_equal}
use Rattle.api_types.proofs.NameLemmas.{by_test, ident_same}

-- of rows that hold all that pass, as many pass
pub narrowed : {R : Type 0} (keep test : R → Bool) (xs : List R) → Each (λ x. keep x ≡ false → test x ≡ false) xs → filter test (filter keep xs) ≡ filter test xs
narrowed keep test [] each = refl
narrowed {R} keep test (x ∷ xs) each = by (keep x) (each 0 x refl) (narrowed keep test xs (λ k y at. each (suc k) y at))
  where
    by : (b : Bool) → (b ≡ false → test x ≡ false) → filter test (filter keep xs) ≡ filter test xs → filter test (cond b (x ∷ filter keep xs) (filter keep xs)) ≡ cond (test x) (x ∷ filter test xs) (filter test xs)
    by true fails rest = ap (λ ys. cond (test x) (x ∷ ys) ys) rest
    by false fails rest = rest ∙ ap (λ (b : Bool). cond b (x ∷ filter test xs) (filter test xs)) (sym (fails refl))

module _ {R : Type 0} (id_of : R → Ident) where
  abbrev has : Ident → R → Bool
  has i r = ident_eq i (id_of r)

  -- no row has an id that all differ from
  none_has : (i : Ident) (xs : List R) → AllByRecursion (λ j. ident_eq i j ≡ false) (map id_of xs) → filter (has i) xs ≡ []
  none_has i [] all = refl
  none_has i (x ∷ xs) all = ap (λ (b : Bool). cond b (x ∷ filter (has i) xs) (filter (has i) xs)) all.0 ∙ none_has i xs all.1

  -- nor has the row at a place
  differs_at : (i : Ident) (xs : List R) (k : ℕ) (r : R) → AllByRecursion (λ j. ident_eq i j ≡ false) (map id_of xs) → slice_get xs k ≡ Some r → ident_eq i (id_of r) ≡ false
  differs_at i [] k r all at = none_some r _ at
  differs_at i (x ∷ xs) zero r all at = ap (λ (y : R). ident_eq i (id_of y)) (sym (some_equal x r at)) ∙ all.0
  differs_at i (x ∷ xs) (suc k) r all at = differs_at i xs k r all.1 at

  -- the row at a place is the only one with its id
  pub alone : (i : Ident) (xs : List R) (k : ℕ) (r : R) → HaveOwnIds id_of xs → slice_get xs k ≡ Some r → ident_eq i (id_of r) ≡ true → take 1 (drop k xs) ≡ filter (has i) xs
  unfolding IsDistinct
  alone i [] k r own at hit = none_some r _ at
  alone i (x ∷ xs) zero r own at hit =
      let here : ident_eq i (id_of x) ≡ true = ap (λ (y : R). ident_eq i (id_of y)) (some_equal x r at) ∙ hit in
      let others : filter (has i) xs ≡ [] = none_has i xs (subst (λ j. AllByRecursion (λ m. ident_eq j m ≡ false) (map id_of xs)) (sym (ident_same i (id_of x) here)) own.0) in
      sym (ap (λ (b : Bool). cond b (x ∷ filter (has i) xs) (filter (has i) xs)) here ∙ ap (λ ys. x ∷ ys) others)
  alone i (x ∷ xs) (suc k) r own at hit =
      let other : ident_eq i (id_of x) ≡ false =
      by_test (ident_eq i (id_of x)) (ident_eq i (id_of x) ≡ false)
      (λ here. false_true _ (sym (differs_at i xs k r (subst (λ j. AllByRecursion (λ m. ident_eq j m ≡ false) (map id_of xs)) (sym (ident_same i (id_of x) here)) own.0) at) ∙ hit))
      (λ h. h)
      in
      alone i xs k r own.1 at hit ∙ sym (ap (λ (b : Bool). cond b (x ∷ filter (has i) xs) (filter (has i) xs)) other)

  -- what is found under an id has it
  pub found_has : (i : Ident) (xs : List R) (r : R) → row_of id_of i xs ≡ Some r → ident_eq i (id_of r) ≡ true
  found_has i [] r found = none_some r _ found
  found_has i (x ∷ xs) r found = by (has i x) refl found (found_has i xs r)
    where
      by : (b : Bool) → has i x ≡ b → cond b (Some x) (row_of id_of i xs) ≡ Some r → (row_of id_of i xs ≡ Some r → ident_eq i (id_of r) ≡ true) → ident_eq i (id_of r) ≡ true
      by true is h onward = ap (has i) (sym (some_equal x r h)) ∙ is
      by false is h onward = onward h

  -- a row that is found at a place is the only one with the id
  pub alone_found : (i : Ident) (xs : List R) (k : ℕ) (found : Option R) → HaveOwnIds id_of xs → slice_get xs k ≡ found → found ≡ row_of id_of i xs → is_some found ≡ true → take 1 (drop k xs) ≡ filter (has i) xs
  alone_found i xs k None own at is there = false_true _ there
  alone_found i xs k (Some r) own at is there = alone i xs k r own at (found_has i xs r (sym is))

  -- where none is found, none has the id
  pub none_found : (i : Ident) (xs : List R) → is_some (row_of id_of i xs) ≡ false → filter (has i) xs ≡ []
  none_found i [] h = refl
  none_found i (x ∷ xs) h = by (has i x) h (none_found i xs)
    where
      by : (b : Bool) → is_some (cond b (Some x) (row_of id_of i xs)) ≡ false → (is_some (row_of id_of i xs) ≡ false → filter (has i) xs ≡ []) → cond b (x ∷ filter (has i) xs) (filter (has i) xs) ≡ []
      by true none onward = false_true _ (sym none)
      by false none onward = onward none
