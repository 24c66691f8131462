-- What items of a change tell of the numbers of rows: of each item's row, and of rows by their ids.
use Rattle.std.specs.Prelude.{◌≡◌, ℕ, false, List, [], ◌∷◌, Option, Some, None, option_and_then, unwrap_or, ⊤}
use Rattle.api_types.specs.Edits.{FitsAt, list_after_at}
use Rattle.api_types.specs.Ident.{Ident}
use Rattle.api_types.specs.Table.{ident_eq, place_of}
use Rattle.api_types.specs.declared.change.Item.{Item}
use Rattle.api_types.specs.declared.kind.Row.{Row}
use Rattle.plane_types.specs.Numbered.{RowItem}

-- the first, if it is there, or else the second
abbrev pub first_some : {X : Type 0} → Option X → Option X → Option X
first_some None o = o
first_some (Some x) o = Some x

-- what an item leaves, as a row of the kind
abbrev pub left_by : {R : Type 0} → (Row → Option R) → Item → Option R
left_by part item = option_and_then part item.after

module _ {R : Type 0} (id_of : R → Ident) where
  -- a row that was made has its own number, and each other one its place before the change
  abbrev pub number_by : List R → (Ident → Option ℕ) → Ident → Option ℕ
  number_by rows made i = first_some (made i) (place_of id_of i rows)

  -- the number of an item's row: a row that the item makes gets the next one
  abbrev pub item_number : (Ident → Option ℕ) → ℕ → Option R → ℕ
  item_number number next None = next
  item_number number next (Some row) = unwrap_or (number (id_of row)) next

  -- the numbers by ids after an item, but for that of a row which it takes out
  abbrev pub Renumbers : (Ident → Option ℕ) → (Ident → Option ℕ) → ℕ → Option R → Option R → Type 0
  Renumbers number after next None None = ⊤
  Renumbers number after next (Some r) None =
      (j : Ident) → ident_eq (id_of r) j ≡ false → after j ≡ number j
  Renumbers number after next None (Some row) =
      (after (id_of row) ≡ Some next)
      × ((j : Ident) → ident_eq (id_of row) j ≡ false → after j ≡ number j)
  Renumbers number after next (Some r) (Some row) = (j : Ident) → after j ≡ number j

  -- each item fits the rows of the kind as the earlier ones left them
  abbrev pub FitRows : List R → List (RowItem R) → Type 0
  FitRows rows [] = ⊤
  FitRows rows (i ∷ is) =
      FitsAt id_of rows i.place i.old i.new
      × FitRows (list_after_at rows i.place i.old i.new) is
