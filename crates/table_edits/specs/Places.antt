-- Rows of a table with their keys: what a row's key tells of the row, and that each row has its key.
use Rattle.std.specs.Prelude.{◌≡◌, ℕ, Bool, false, true, List, [], ◌∷◌, Option, Some, None, option_and_then, ⊤}
use Rattle.api_types.specs.Ident.{Ident}
use Rattle.api_types.specs.Table.{place_of}

-- a test of a key, which fails where there is none
abbrev pub passes : {K : Type 0} → (K → Bool) → Option K → Bool
passes test None = false
passes test (Some k) = test k

-- each row has the key under which it stands
abbrev pub HaveKeys : {K R : Type 0} → (R → Option K) → List (K × R) → Type 0
HaveKeys key [] = ⊤
HaveKeys key (x ∷ xs) = (key x.1 ≡ Some x.0) × HaveKeys key xs

-- it comes before the last one, if there is one
abbrev pub is_below : {K : Type 0} → (K → K → Bool) → K → Option K → Bool
is_below before k None = true
is_below before k (Some last) = before k last

-- the number of the row from which a row of a table comes, by its id
abbrev pub number_in : {X R : Type 0} → (X → Ident) → (R → Option Ident) → List X → R → Option ℕ
number_in id_of source rows r = option_and_then (λ i. place_of id_of i rows) (source r)
