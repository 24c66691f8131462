-- Ids that no row has, where a row comes or rows go.
use Rattle.std.proofs.Common.{◌≡◌, ◌∙◌, ◌<◌, ℕ, Bool, true, false, cond, List, [], ◌∷◌, ◌++◌, Some, None, ap, arith, filter, refl}
use Rattle.std.proofs.lemmas.Bool.Decides.{nat_tests}
use Rattle.api_types.specs.Ident.{Ident}
use Rattle.api_types.specs.Registration.{ident}
use Rattle.api_types.specs.Table.{ident_eq, row_of}

pub later_id : (ordinal a b : ℕ) → b < a → ident_eq (ident ordinal a) (ident ordinal b) ≡ false
later_id ordinal a b less = grind (arith, nat_tests)

module _ {R : Type 0} (id_of : R → Ident) (i : Ident) where
  -- a row with another id
  pub absent_pushed : (rows : List R) (r : R) → row_of id_of i rows ≡ None → ident_eq i (id_of r) ≡ false → row_of id_of i (rows ++ r ∷ []) ≡ None
  absent_pushed [] r none apart = ap (λ b. cond b (Some r) None) apart
  absent_pushed (x ∷ rows) r none apart = by (ident_eq i (id_of x)) none (λ rest. absent_pushed rows r rest apart)
    where
      by : (b : Bool) → cond b (Some x) (row_of id_of i rows) ≡ None → (row_of id_of i rows ≡ None → row_of id_of i (rows ++ r ∷ []) ≡ None)
          → cond b (Some x) (row_of id_of i (rows ++ r ∷ [])) ≡ None
      by true e on = cc
      by false e on = on e

  pub absent_filtered : (test : R → Bool) (rows : List R) → row_of id_of i rows ≡ None → row_of id_of i (filter test rows) ≡ None
  absent_filtered test [] none = refl
  absent_filtered test (x ∷ rows) none = by (test x) (ident_eq i (id_of x)) refl none (absent_filtered test rows)
    where
      by : (t b : Bool) → ident_eq i (id_of x) ≡ b → cond b (Some x) (row_of id_of i rows) ≡ None → (row_of id_of i rows ≡ None → row_of id_of i (filter test rows) ≡ None)
          → row_of id_of i (cond t (x ∷ filter test rows) (filter test rows)) ≡ None
      by t true same e on = cc
      by true false other e on = ap (λ b. cond b (Some x) (row_of id_of i (filter test rows))) other ∙ on e
      by false false other e on = on e
