-- A map that has each row at its id, seen as the list of its rows.
use Rattle.std.proofs.Common.{◌≡◌, ℕ, ◌<◌, zero, suc, List, [], ◌∷◌, ◌++◌, Bool, false, cond, None, Some, length, map, take, drop, slice_get, slice_set, insert, remove, refl, ap, sym, ◌∙◌, arith}
use Rattle.std.specs.Prelude.{find, ◌==◌, ◌&&◌, is_some, Option, option_and_then, option_map, IfSome}
use Rattle.std.proofs.lemmas.Option.{slice_get_within}
use Rattle.std.proofs.lemmas.Bool.Decides.{nat_tests}
use Rattle.std.proofs.lemmas.List.{map-append, take-map, drop-map}
use Rattle.std.specs.Map.{keys_of, values_of, lookup}
use Rattle.indexmap.specs.Layout.{set_value_at}
use Rattle.api_types.specs.Ident.{Ident}
use Rattle.std.specs.List.{IsDistinct, AllByRecursion}
use Rattle.api_types.specs.Table.{entries_of, row_of, ident_eq, HaveOwnIds}

eqb-sym : (a b : ℕ) → (a == b) ≡ (b == a)
eqb-sym a b = grind (arith, nat_tests)

pub ident_eq-sym : (a b : Ident) → ident_eq a b ≡ ident_eq b a
ident_eq-sym a b = λ j. eqb-sym a.ordinal b.ordinal j && eqb-sym a.count b.count j

pub keys-entries_of : {R : Type 0} (id_of : R → Ident) (rows : List R) → keys_of (entries_of id_of rows) ≡ map id_of rows
keys-entries_of id_of [] = refl
keys-entries_of id_of (r ∷ rows) = ap (λ x. id_of r ∷ x) (keys-entries_of id_of rows)

slice_get-cons : {R : Type 0} (x : R) (rows : List R) (i : ℕ) → slice_get (x ∷ rows) (suc i) ≡ slice_get rows i
slice_get-cons x rows i = refl

module _ {R : Type 0} (id_of : R → Ident) where
  pub values-entries_of : (rows : List R) → values_of (entries_of id_of rows) ≡ rows
  values-entries_of [] = refl
  values-entries_of (r ∷ rows) = ap (λ x. r ∷ x) (values-entries_of rows)

  pub lookup-entries_of : (test : Ident → Bool) (rows : List R) → lookup test (entries_of id_of rows) ≡ find (λ r. test (id_of r)) rows
  lookup-entries_of test [] = refl
  lookup-entries_of test (r ∷ rows) = ap (cond (test (id_of r)) (Some r)) (lookup-entries_of test rows)

  pub append-entries_of : (rows : List R) (r : R) → entries_of id_of rows ++ (id_of r, r) ∷ [] ≡ entries_of id_of (rows ++ r ∷ [])
  append-entries_of [] r = refl
  append-entries_of (x ∷ rows) r = ap (λ es. (id_of x, x) ∷ es) (append-entries_of rows r)

  pub remove-entries_of : (rows : List R) (i : ℕ) → remove (entries_of id_of rows) i ≡ entries_of id_of (remove rows i)
  remove-entries_of rows i = (λ j. take-map (λ r. (id_of r, r)) i rows j ++ drop-map (λ r. (id_of r, r)) (suc i) rows j) ∙ sym (map-append (λ r. (id_of r, r)) (take i rows) (drop (suc i) rows))

  pub insert-entries_of : (rows : List R) (i : ℕ) (r : R) → insert (entries_of id_of rows) i (id_of r, r) ≡ entries_of id_of (insert rows i r)
  insert-entries_of rows i r =
      (λ j. take-map (λ x. (id_of x, x)) i rows j ++ (id_of r, r) ∷ drop-map (λ x. (id_of x, x)) i rows j)
      ∙ sym (map-append (λ x. (id_of x, x)) (take i rows) (r ∷ drop i rows))

  pub set-entries_of : (rows : List R) (i : ℕ) (w : R) → i < length rows → ((r : R) → slice_get rows i ≡ Some r → id_of w ≡ id_of r)
      → set_value_at (entries_of id_of rows) i w ≡ entries_of id_of (slice_set rows i w)
  set-entries_of [] i w lt same = absurd (omega arith)
  set-entries_of (x ∷ rows) zero w lt same = λ j. (sym (same x refl) j, w) ∷ entries_of id_of rows
  set-entries_of (x ∷ rows) (suc i) w lt same = ap (λ es. (id_of x, x) ∷ es) (set-entries_of rows i w (omega arith) (λ r h. same r (slice_get-cons x rows i ∙ h)))

  pub row_at_place : (rows : List R) (i : ℕ) (e : Ident × R) → slice_get (entries_of id_of rows) i ≡ Some e → slice_get rows i ≡ Some e.1
  row_at_place [] i e at = cc
  row_at_place (x ∷ rows) zero e at = ap (option_map (λ e. e.1)) at
  row_at_place (x ∷ rows) (suc i) e at = row_at_place rows i e at

  -- a map whose entries are those of the rows keeps the invariant, and is seen as the rows
  pub kept : (es : List (Ident × R)) (rows : List R) → es ≡ entries_of id_of rows → es ≡ entries_of id_of (values_of es)
  kept es rows e = e ∙ ap (entries_of id_of) (sym (values-entries_of rows) ∙ ap values_of (sym e))

  pub seen : (es : List (Ident × R)) (rows : List R) → es ≡ entries_of id_of rows → values_of es ≡ rows
  seen es rows e = ap values_of e ∙ values-entries_of rows

  pub differs : (i : ℕ) (r : R) (k : Ident) (rows : List R) → AllByRecursion (λ y. ident_eq k y ≡ false) (map id_of rows) → slice_get rows i ≡ Some r → ident_eq k (id_of r) ≡ false
  differs i r k [] all at = cc
  differs zero r k (x ∷ rows) all at = let same : x ≡ r = cc in ap (λ y. ident_eq k (id_of y)) (sym same) ∙ all.0
  differs (suc i) r k (x ∷ rows) all at = differs i r k rows all.1 at

  -- the id of a row is not among those of the rows before it
  pub new_here : (i : ℕ) (r : R) (rows : List R) → HaveOwnIds id_of rows → slice_get rows i ≡ Some r → row_of id_of (id_of r) (take i rows) ≡ None
  unfolding IsDistinct
  new_here zero r rows own at = refl
  new_here (suc i) r [] own at = refl
  new_here (suc i) r (x ∷ rows) own at =
      let apart : ident_eq (id_of r) (id_of x) ≡ false = ident_eq-sym (id_of r) (id_of x) ∙ differs i r (id_of x) rows own.0 at in
      ap (λ b. cond b (Some x) (row_of id_of (id_of r) (take i rows))) apart ∙ new_here i r rows own.1 at

-- a value that is put where it stands changes nothing
pub set_same : {R : Type 0} (es : List (Ident × R)) (i : ℕ) (w : R) → slice_get (values_of es) i ≡ Some w → set_value_at es i w ≡ es
set_same [] i w at = refl
set_same (e ∷ es) zero w at = let same : e.1 ≡ w = cc in λ j. (e.0, sym same j) ∷ es
set_same (e ∷ es) (suc i) w at = ap (λ es. e ∷ es) (set_same es i w at)

-- the row at a place that is found
pub row_found : {R : Type 0} (rows : List R) (place : Option ℕ) (row : Option R) → is_some place ≡ is_some row → IfSome place (λ k. slice_get rows k ≡ row) → option_and_then (slice_get rows) place ≡ row
row_found rows None None found at = refl
row_found rows None (Some r) found at = cc
row_found rows (Some k) row found at = at

pub place_within : {R : Type 0} (rows : List R) (place : Option ℕ) (row : Option R) → is_some place ≡ is_some row → IfSome place (λ k. slice_get rows k ≡ row) → IfSome place (λ k. k < length rows)
place_within rows None row found at = tt
place_within rows (Some k) None found at = cc
place_within rows (Some k) (Some r) found at = slice_get_within rows k r at
