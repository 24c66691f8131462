-- The texts of changes and of rows. Reading is the inverse of writing: a text is read as the one
-- change, or as the one list of rows, whose text it is.
use Rattle.std.specs.Prelude.{◌≡◌, ◌<◌, ◌^◌, List, [], ◌∷◌, map, codes, Option, Some, None, IsUtf8, ⊤}
use Rattle.serde_json.specs.Written.{compact_text}
use Rattle.net_addr.specs.Words.{Bytes}
use Rattle.api_types.specs.Lists.{Each}
use Rattle.api_types.specs.Printed.{Tree, number, word}
use Rattle.api_types.specs.declared.change.Item.{Item}
use Rattle.api_types.specs.declared.kind.Kind.{Kind}
use Rattle.api_types.specs.declared.kind.Row.{Row}
use Rattle.api_types.specs.declared.page.PageRow.{PageRow}
use Rattle.json_trees.specs.Printed.{fields, list, or_null, tree_data}
use Rattle.wire_types.specs.Pages.{kind_of}
use Rattle.wire_text.specs.RowTrees.{row_tree}
use Rattle.wire_text.specs.Typed.{IsTyped}
use Rattle.wire_text.specs.VariantNames.{kind_name}

abbrev pub item_tree : Item → Tree
item_tree i = fields (
    (codes "after", or_null row_tree i.after) ∷ (codes "before", or_null row_tree i.before)
    ∷ (codes "kind", word (kind_name i.kind)) ∷ (codes "place", number i.place) ∷ [])

abbrev pub change_tree : List Item → Tree
change_tree c = list (map item_tree c)

abbrev pub page_row_tree : PageRow → Tree
page_row_tree p =
    fields ((codes "kind", word (kind_name p.kind)) ∷ (codes "row", row_tree p.row) ∷ [])

abbrev pub rows_tree : List PageRow → Tree
rows_tree rows = list (map page_row_tree rows)

abbrev pub change_text : List Item → Bytes
change_text c = compact_text (tree_data (change_tree c))

abbrev pub rows_text : List PageRow → Bytes
rows_text rows = compact_text (tree_data (rows_tree rows))

-- a row of the kind, with values that its type can hold
abbrev pub IsRowOf : Kind → Row → Type 0
IsRowOf k r = (kind_of r ≡ k) × IsTyped r

abbrev pub MayBeRowOf : Kind → Option Row → Type 0
MayBeRowOf k None = ⊤
MayBeRowOf k (Some r) = IsRowOf k r

-- an item whose rows are of its kind
pub record IsItem (i : Item) : Type 0 where
  pub place : i.place < 2 ^ 64
  pub before : MayBeRowOf i.kind i.before
  pub after : MayBeRowOf i.kind i.after

abbrev pub IsPageRow : PageRow → Type 0
IsPageRow p = IsRowOf p.kind p.row

-- the bytes are the text of this change, in UTF-8 (RFC 8259, section 8.1)
pub record IsChangeText (text : Bytes) (c : List Item) : Type 0 where
  pub fit : Each IsItem c
  pub utf8 : IsUtf8 text
  pub is : text ≡ change_text c

-- the bytes are the text of these rows, in UTF-8
pub record IsRowsText (text : Bytes) (rows : List PageRow) : Type 0 where
  pub fit : Each IsPageRow rows
  pub utf8 : IsUtf8 text
  pub is : text ≡ rows_text rows
