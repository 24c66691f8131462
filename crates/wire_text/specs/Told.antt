-- What agents elsewhere are told: the numbers of the kept changes, one change, a page of the rows.
use Rattle.std.specs.Prelude.{ℕ, Bool, List, [], ◌∷◌, codes}
use Rattle.net_addr.specs.Words.{Version}
use Rattle.api_types.specs.Printed.{Tree, number, truth}
use Rattle.api_types.specs.declared.change.Item.{Item}
use Rattle.api_types.specs.declared.page.PageRow.{PageRow}
use Rattle.json_trees.specs.Printed.{fields}
use Rattle.wire_text.specs.Texts.{change_tree, rows_tree}

-- the first and the last number that are kept; the last is the current version
abbrev pub version_tree : Version → Version → Tree
version_tree first last = fields ((codes "first", number first) ∷ (codes "last", number last) ∷ [])

-- a kept change under its number
abbrev pub numbered_change_tree : Version → List Item → Tree
numbered_change_tree n items =
    fields ((codes "items", change_tree items) ∷ (codes "number", number n) ∷ [])

-- a page of the rows at a version
abbrev pub page_tree : Version → ℕ → Bool → List PageRow → Tree
page_tree version n last rows = fields (
    (codes "last", truth last) ∷ (codes "number", number n) ∷ (codes "rows", rows_tree rows)
    ∷ (codes "version", number version) ∷ [])
