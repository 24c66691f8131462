-- Rows with numbers that they keep through a change: before it the number of a row is its place,
-- and a row that the change makes gets one that none had. A row that is taken out and put in again
-- counts as two.
use Rattle.std.specs.Prelude.{ℕ, zero, suc, List, [], ◌∷◌, ◌++◌, Option, Some, None, length, remove}
use Rattle.api_types.specs.Edits.{list_after_at}

-- what becomes of the row at a place: it is made, changed or taken out
pub record RowItem (R : Type 0) : Type 0 where
  pub place : ℕ
  pub old : Option R
  pub new : Option R

module _ {R : Type 0} where
  abbrev pub rows_after : List R → List (RowItem R) → List R
  rows_after rows [] = rows
  rows_after rows (i ∷ is) = rows_after (list_after_at rows i.place i.old i.new) is

  abbrev pub with_numbers : ℕ → List R → List (ℕ × R)
  with_numbers n [] = []
  with_numbers n (r ∷ rs) = (n, r) ∷ with_numbers (suc n) rs

  -- another row at a place, with the number of the one before
  abbrev pub with_row : List (ℕ × R) → ℕ → R → List (ℕ × R)
  with_row [] place row = []
  with_row (x ∷ xs) zero row = (x.0, row) ∷ xs
  with_row (x ∷ xs) (suc place) row = x ∷ with_row xs place row

  -- numbered rows after one item, which gives the next number to a row that it makes
  abbrev pub with_item : List (ℕ × R) → ℕ → ℕ → Option R → Option R → List (ℕ × R)
  with_item xs next place old None = remove xs place
  with_item xs next place None (Some row) = xs ++ (next, row) ∷ []
  with_item xs next place (Some was) (Some row) = with_row xs place row

  abbrev pub with_items : List (ℕ × R) → ℕ → List (RowItem R) → List (ℕ × R)
  with_items xs next [] = xs
  with_items xs next (i ∷ is) =
      with_items (with_item xs next i.place i.old i.new) (suc next) is

  -- the rows after a change, each with its number
  abbrev pub numbered_after : List R → List (RowItem R) → List (ℕ × R)
  numbered_after rows is = with_items (with_numbers 0 rows) (length rows) is
