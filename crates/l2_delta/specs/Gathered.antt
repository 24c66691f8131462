-- What rows with some numbers come to, in the order of the numbers.
use Rattle.std.specs.Prelude.{ℕ, List, [], ◌∷◌, ◌++◌, Option, Some, None}

module _ {X E : Type 0} where
  -- what the row with a number comes to, if there is one
  abbrev pub piece_at : (ℕ → X → List E) → ℕ → Option X → List E
  piece_at piece k None = []
  piece_at piece k (Some x) = piece k x

  -- of numbers from the greatest to the least, from the last on
  abbrev pub gathered : (ℕ → Option X) → (ℕ → X → List E) → List ℕ → List E
  gathered at piece [] = []
  gathered at piece (k ∷ ks) = gathered at piece ks ++ piece_at piece k (at k)
