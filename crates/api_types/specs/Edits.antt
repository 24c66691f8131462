-- What an item of a change does to the list of the rows of its kind, and how it is taken back.
use Rattle.std.specs.Prelude.{◌≡◌, ℕ, List, [], ◌∷◌, ◌++◌, Option, Some, None, IsSome, length, slice_get, slice_set, insert, remove, option_and_then, MatchOption, ⊤}
use Rattle.api_types.specs.Ident.{Ident}
use Rattle.api_types.specs.Table.{row_of, HaveOwnIds}
use Rattle.api_types.specs.declared.kind.Row.{Row}
use Rattle.api_types.specs.declared.change.Item.{Item}

module _ {R : Type 0} where
  -- the rows after the one at a place went from `before` to `after`: a new row is last, and where
  -- one is taken out the rest closes up
  abbrev pub list_after_at : List R → ℕ → Option R → Option R → List R
  list_after_at rows place before None = remove rows place
  list_after_at rows place None (Some row) = rows ++ row ∷ []
  list_after_at rows place (Some old) (Some row) = slice_set rows place row

  -- the rows with that taken back: a row that was taken out stands at its old place again
  abbrev pub list_before_at : List R → ℕ → Option R → Option R → List R
  list_before_at rows place None after = remove rows place
  list_before_at rows place (Some old) None = insert rows place old
  list_before_at rows place (Some old) (Some row) = slice_set rows place old

  -- `before` is the row at the place, or is none and the place is the list's end; `after` keeps
  -- its id, or has a new one
  abbrev pub FitsAt : (R → Ident) → List R → ℕ → Option R → Option R → Type 0
  FitsAt id_of rows place None None = ⊥
  FitsAt id_of rows place None (Some row) =
      (place ≡ length rows) × (row_of id_of (id_of row) rows ≡ None)
  FitsAt id_of rows place (Some old) None = slice_get rows place ≡ Some old
  FitsAt id_of rows place (Some old) (Some row) =
      (slice_get rows place ≡ Some old) × (id_of row ≡ id_of old)

  -- the row, where there is one, is of this kind
  abbrev pub IsOfKind : (Row → Option R) → Option Row → Type 0
  IsOfKind part o = MatchOption o ⊤ (λ row. IsSome (part row))

  abbrev pub list_after : (Row → Option R) → List R → Item → List R
  list_after part rows item =
      list_after_at rows item.place (option_and_then part item.before)
      (option_and_then part item.after)

  abbrev pub list_before : (Row → Option R) → List R → Item → List R
  list_before part rows item =
      list_before_at rows item.place (option_and_then part item.before)
      (option_and_then part item.after)

  abbrev pub FitsTable : (Row → Option R) → (R → Ident) → List R → Item → Type 0
  FitsTable part id_of rows item =
      IsOfKind part item.before × IsOfKind part item.after
      × FitsAt id_of rows item.place (option_and_then part item.before)
      (option_and_then part item.after)

-- a list of rows to which an item led from one that it fitted
pub record CameFrom {R : Type 0} (part : Row → Option R) (id_of : R → Ident) (now : List R)
    (item : Item) : Type 0 where
  pub rows : List R
  pub own_ids : HaveOwnIds id_of rows
  pub fits : FitsTable part id_of rows item
  pub now_is : now ≡ list_after part rows item
