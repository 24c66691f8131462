-- How edits of the rows of a kind come to edits of its list.
use Rattle.std.specs.Prelude.{◌≡◌, ℕ, ◌++◌, List, [], ◌∷◌, Option, Some}
use Rattle.api_types.specs.Edits.{FitsTable, list_after}
use Rattle.api_types.specs.Ident.{Ident}
use Rattle.api_types.specs.RowLists.{RowLists}
use Rattle.api_types.specs.Rows.{FitsItem, after_item}
use Rattle.api_types.specs.WithRows.{gone_from, put_in, with_added, with_put, without_row}
use Rattle.api_types.specs.declared.change.Item.{Item}
use Rattle.api_types.specs.declared.kind.Kind.{Kind}
use Rattle.api_types.specs.declared.kind.Row.{Row}

-- what becomes of one row of a kind
abbrev pub item_of : Kind → ℕ → Option Row → Option Row → Item
item_of kind place old new = record { kind = kind; place = place; before = old; after = new }

-- each edit of a row of the kind is one of its list
pub record IsRowKind {R : Type 0}
    (kind : Kind)
    (into : R → Row)
    (list_of : RowLists → List R)
    (with_list : RowLists → List R → RowLists)
    (part : Row → Option R)
    (id_of : R → Ident)
    : Type 0 where
  pub part_is : (r : R) → part (into r) ≡ Some r
  pub fits :
      (rows : RowLists) (place : ℕ) (old new : Option Row)
      → FitsTable part id_of (list_of rows) (item_of kind place old new)
      → FitsItem rows (item_of kind place old new)
  pub leads :
      (rows : RowLists) (place : ℕ) (old new : Option Row)
      → after_item rows (item_of kind place old new)
      ≡ with_list rows (list_after part (list_of rows) (item_of kind place old new))
  pub added :
      (rows : RowLists) (r : R)
      → with_added rows (into r) ≡ with_list rows (list_of rows ++ r ∷ [])
  pub put :
      (rows : RowLists) (r : R)
      → with_put rows (into r) ≡ with_list rows (put_in id_of r (list_of rows))
  pub gone :
      (rows : RowLists) (i : Ident)
      → without_row rows kind i ≡ with_list rows (gone_from id_of i (list_of rows))
  pub itself : (rows : RowLists) → with_list rows (list_of rows) ≡ rows
