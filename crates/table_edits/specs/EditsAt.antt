-- The edits at keys of a table that make of its rows there what a partial function has.
use Rattle.std.specs.Prelude.{◌≡◌, ◌⊎◌, ◌||◌, Bool, false, true, List, [], ◌∷◌, Option, Some, None, ⊤}
use Rattle.plane_types.specs.Keyed.{are_one, row_at}
use Rattle.plane_types.specs.Edits.{edit_at}
use Rattle.plane_types.specs.declared.delta.Edit.{Edit}

module _ {K R : Type 0} (before : K → K → Bool) (xs : List (K × R)) (after : K → Option R) where
  -- none where the row is the one that is to stand there
  abbrev pub IsEditAt : K → Option (Edit R) → Type 0
  IsEditAt k None = row_at before k xs ≡ after k
  IsEditAt k (Some e) =
      (row_at before k xs ≡ after k → ⊥) × (e ≡ edit_at before xs (k, after k))

  -- at each key, one after the other
  abbrev pub AreEditsAt : List K → List (Edit R) → Type 0
  AreEditsAt [] es = es ≡ []
  AreEditsAt (k ∷ ks) es =
      ((row_at before k xs ≡ after k) × AreEditsAt ks es)
      ⊎ ((row_at before k xs ≡ after k → ⊥)
      × ((rest : List (Edit R)) × (es ≡ edit_at before xs (k, after k) ∷ rest)
      × AreEditsAt ks rest))

module _ {K : Type 0} (before : K → K → Bool) where
  -- whether a key is one of these
  abbrev pub among : K → List K → Bool
  among q [] = false
  among q (k ∷ ks) = are_one before q k || among q ks

  -- from the greatest to the least
  abbrev pub KeysBefore : K → List K → Type 0
  KeysBefore k [] = ⊤
  KeysBefore k (q ∷ qs) = (before q k ≡ true) × KeysBefore k qs

  abbrev pub KeysDescend : List K → Type 0
  KeysDescend [] = ⊤
  KeysDescend (k ∷ ks) = KeysBefore k ks × KeysDescend ks
