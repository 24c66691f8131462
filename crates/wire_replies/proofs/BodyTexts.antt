-- The text of each body is read as its value.
use Rattle.std.proofs.Common.{◌<◌, ◌^◌, ℕ, List, [], ◌∷◌, codes, refl, arith}
use Rattle.std.specs.Prelude.{IsUtf8}
use Rattle.api_types.specs.Lists.{Each}
use Rattle.api_types.specs.Printed.{Tree, number, truth, word}
use Rattle.json_trees.specs.Printed.{fields, only, tree_data}
use Rattle.wire_text.specs.Reading.{IsReadBack}
use Rattle.wire_text.specs.Texts.{IsItem, IsPageRow, change_tree, rows_tree}
use Rattle.wire_text.specs.Told.{version_tree}
use Rattle.wire_text.proofs.PlainRows.{plain_change, plain_rows, sorted}
use Rattle.wire_text.proofs.Shallow.{deep_items, deep_page}
use Rattle.wire_text.proofs.TextBack.{IsPlain, text_back}
use Rattle.wire_replies.specs.ReplyTexts.{change_body_tree, fault_tree, page_body_tree}
use Rattle.wire_replies.specs.declared.document.ChangeBody.{ChangeBody}
use Rattle.wire_replies.specs.declared.document.FaultBody.{FaultBody}
use Rattle.wire_replies.specs.declared.document.PageBody.{PageBody}
use Rattle.wire_replies.specs.declared.document.VersionBody.{VersionBody}

plain_only : (name : List ℕ) (t : Tree) → IsPlain (tree_data t) → IsPlain (tree_data (only name t))
plain_only name t plain = ((tt, tt), (plain, tt))

pub version_read : (b : VersionBody) → (b.first < 2 ^ 64) × (b.last < 2 ^ 64) → IsReadBack (only (codes "version") (version_tree b.first b.last))
version_read b is =
    text_back (tree_data (only (codes "version") (version_tree b.first b.last)))
    (plain_only (codes "version") (version_tree b.first b.last) (sorted (version_tree b.first b.last) refl, (is.0, (is.1, tt)))) (omega arith)

pub change_read : (b : ChangeBody) → (b.number < 2 ^ 64) × Each IsItem b.items → IsReadBack (change_body_tree b.number b.items)
change_read b is =
    let inner : Tree = fields ((codes "items", change_tree b.items) ∷ (codes "number", number b.number) ∷ []) in
    let few = deep_items b.items in
    text_back (tree_data (change_body_tree b.number b.items))
    (plain_only (codes "change") inner (sorted inner refl, (plain_change b.items is.1, (is.0, tt)))) (omega (arith, few))

pub page_read : (b : PageBody) → (b.version < 2 ^ 64) × (b.number < 2 ^ 64) × Each IsPageRow b.rows → IsReadBack (page_body_tree b.version b.number b.last b.rows)
page_read b is =
    let inner : Tree = fields ((codes "last", truth b.last) ∷ (codes "number", number b.number) ∷ (codes "rows", rows_tree b.rows) ∷ (codes "version", number b.version) ∷ []) in
    let few = deep_page b.rows in
    text_back (tree_data (page_body_tree b.version b.number b.last b.rows))
    (plain_only (codes "page") inner (sorted inner refl, (tt, (is.1, (plain_rows b.rows is.2, (is.0, tt)))))) (omega (arith, few))

pub fault_read : (b : FaultBody) → IsUtf8 b.detail × IsUtf8 b.message × IsUtf8 b.kind → IsReadBack (fault_tree b.detail b.message b.kind)
fault_read b is =
    let inner : Tree = fields ((codes "detail", word b.detail) ∷ (codes "message", word b.message) ∷ (codes "type", word b.kind) ∷ []) in
    text_back (tree_data (fault_tree b.detail b.message b.kind)) (plain_only (codes "NeutronError") inner (sorted inner refl, (tt, (tt, (tt, tt))))) (omega arith)
