-- A row that breaks a clause.
use Rattle.std.specs.Prelude.{ℕ, ◌+◌, not, cond, min, Bool, List, [], ◌∷◌, Option, Some, None, find, slice_get, option_map, option_and_then}
use Rattle.api_types.specs.Ident.{Ident}
use Rattle.api_types.specs.declared.kind.Kind.{Kind}
use Rattle.api_check.specs.declared.broken.Inconsistent.{Inconsistent}

-- a row, where there is one, as that which breaks a clause
unfoldable pub told : {R : Type 0} → ℕ → Kind → (R → Ident) → Option R → Option Inconsistent
told rule kind id_of row =
    option_map (λ r. record { rule = rule; kind = kind; id = id_of r }) row

-- the row at a place, where there is one
unfoldable pub told_at : {R : Type 0} → ℕ → Kind → (R → Ident) → List R → Option ℕ
    → Option Inconsistent
told_at rule kind id_of rows place =
    told rule kind id_of (option_and_then (slice_get rows) place)

-- the first row that fails the test breaks the clause
unfoldable pub breaks : {R : Type 0} → ℕ → Kind → (R → Ident) → (R → Bool) → List R
    → Option Inconsistent
breaks rule kind id_of test rows = told rule kind id_of (find (λ r. not (test r)) rows)

-- the first that there is
unfoldable pub first_some : {X : Type 0} → List (Option X) → Option X
first_some [] = None
first_some (None ∷ rest) = first_some rest
first_some (Some x ∷ rest) = Some x

-- the first place, counted from k on, at which a row fails a test that looks at its place
unfoldable pub first_place : {R : Type 0} → (ℕ → R → Bool) → ℕ → List R → Option ℕ
first_place test k [] = None
first_place test k (r ∷ rows) = cond (test k r) (first_place test (k + 1) rows) (Some k)

unfoldable pub earlier : Option ℕ → Option ℕ → Option ℕ
earlier None b = b
earlier (Some a) None = Some a
earlier (Some a) (Some b) = Some (min a b)
