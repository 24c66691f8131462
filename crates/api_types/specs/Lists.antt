-- Words on lists of rows.
use Rattle.std.specs.Prelude.{◌≡◌, ℕ, ◌&&◌, Bool, true, false, List, [], ◌∷◌, Option, Some, None, slice_get, count_by}
use Rattle.std.specs.List.{list_any}
use Rattle.api_types.specs.Ident.{Ident}
use Rattle.api_types.specs.Table.{ident_eq}

-- P of each row
abbrev pub Each : {R : Type 0} → (R → Type 0) → List R → Type 0
Each {R} P rows = (k : ℕ) (r : R) → slice_get rows k ≡ Some r → P r

-- each row passes the test
abbrev pub Pass : {R : Type 0} → (R → Bool) → List R → Type 0
Pass test rows = Each (λ r. test r ≡ true) rows

-- whether a row with this id is there
abbrev pub stands : {R : Type 0} → (R → Ident) → Ident → List R → Bool
stands id_of i rows = list_any (λ r. ident_eq i (id_of r)) rows

-- whether a row with this id is there that passes the test
abbrev pub stands_so : {R : Type 0} → (R → Ident) → Ident → (R → Bool) → List R → Bool
stands_so id_of i test rows = list_any (λ r. ident_eq i (id_of r) && test r) rows

-- how many rows have this id
abbrev pub times : {R : Type 0} → (R → Ident) → Ident → List R → ℕ
times id_of i rows = count_by (λ r. ident_eq i (id_of r)) rows

-- whether what is there, if anything is, passes the test
abbrev pub if_some : {X : Type 0} → (X → Bool) → Option X → Bool
if_some test None = true
if_some test (Some x) = test x

-- whether something is there that passes the test
abbrev pub is_some_so : {X : Type 0} → (X → Bool) → Option X → Bool
is_some_so test None = false
is_some_so test (Some x) = test x

abbrev pub is_empty : {X : Type 0} → List X → Bool
is_empty [] = true
is_empty (x ∷ xs) = false

-- whether there is one item and no more
abbrev pub is_one : {X : Type 0} → List X → Bool
is_one (x ∷ []) = true
is_one _ = false
