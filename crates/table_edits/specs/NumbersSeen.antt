-- Rows of a kind before a change, and what the change does to them; and what stands at each number
-- before and after it.
use Rattle.std.specs.Prelude.{◌≡◌, ℕ, ◌==◌, nat_lt, false, IsSomeAnd, List, Option, Some, None, option_and_then, slice_get}
use Rattle.std.specs.List.{list_any}
use Rattle.api_types.specs.Ident.{Ident}
use Rattle.api_types.specs.Table.{row_of}
use Rattle.api_types.specs.declared.change.Item.{Item}
use Rattle.api_types.specs.declared.kind.Row.{Row}
use Rattle.plane_types.specs.Keyed.{row_at}
use Rattle.plane_types.specs.Numbered.{RowItem, numbered_after, rows_after, with_numbers}
use Rattle.table_edits.specs.NumbersTold.{left_by, number_by}

pub record Renumbered (R : Type 0) : Type 0 where
  pub rows : List R
  pub items : List (RowItem R)

module _ {R : Type 0} where
  abbrev pub at_before : Renumbered R → ℕ → Option R
  at_before n k = row_at nat_lt k (with_numbers 0 n.rows)

  abbrev pub at_after : Renumbered R → ℕ → Option R
  at_after n k = row_at nat_lt k (numbered_after n.rows n.items)

  -- at all numbers but these the row is as before
  abbrev pub OthersStay : Renumbered R → List ℕ → Type 0
  OthersStay n named =
      (k : ℕ) → list_any (λ m. m == k) named ≡ false → at_before n k ≡ at_after n k

module _ {R : Type 0} (id_of : R → Ident) (part : Row → Option R) where
  -- what the last item of each number, the numbers of the rows that were made and the numbers that
  -- are named tell of the rows after a change
  pub record TellsOf (changes : List Item) (n : Renumbered R) (last : ℕ → Option ℕ) (made : Ident → Option ℕ) (named : List ℕ) : Type 0 where
    pub stays : (k : ℕ) → last k ≡ None → at_before n k ≡ at_after n k
    pub puts : (k place : ℕ) → last k ≡ Some place
        → option_and_then (left_by part) (slice_get changes place) ≡ at_after n k
    pub finds : (i : Ident) (r : R) → row_of id_of i (rows_after n.rows n.items) ≡ Some r
        → IsSomeAnd (number_by id_of n.rows made i) (λ k. at_after n k ≡ Some r)
    pub names : (k : ℕ) → list_any (λ m. m == k) named ≡ false → last k ≡ None
