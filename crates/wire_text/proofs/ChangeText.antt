-- The text of a change, or of rows, is read as their value.
use Rattle.std.proofs.Common.{◌≡◌, List, Some, arith}
use Rattle.serde_json.specs.Read.{read}
use Rattle.api_types.specs.Lists.{Each}
use Rattle.api_types.specs.declared.change.Item.{Item}
use Rattle.api_types.specs.declared.page.PageRow.{PageRow}
use Rattle.json_trees.specs.Printed.{tree_data}
use Rattle.wire_text.specs.Texts.{IsItem, IsPageRow, change_text, change_tree, rows_text, rows_tree}
use Rattle.wire_text.proofs.PlainRows.{plain_change, plain_rows}
use Rattle.wire_text.proofs.Shallow.{deep_items, deep_page}
use Rattle.wire_text.proofs.TextBack.{text_back}

pub change_read : (c : List Item) → Each IsItem c → read (change_text c) ≡ Some (tree_data (change_tree c))
change_read c is = text_back (tree_data (change_tree c)) (plain_change c is) (let few = deep_items c in omega (arith, few))

pub rows_read : (rows : List PageRow) → Each IsPageRow rows → read (rows_text rows) ≡ Some (tree_data (rows_tree rows))
rows_read rows is = text_back (tree_data (rows_tree rows)) (plain_rows rows is) (let few = deep_page rows in omega (arith, few))
