-- Rows that are printed in a list.
use Rattle.std.proofs.Common.{◌≡◌, ℕ, List, [], ◌∷◌, map, refl, ap, ◌∙◌}
use Rattle.serde_json.specs.Written.{compact_text}
use Rattle.api_types.specs.Printed.{ManyRows, shown_row}
use Rattle.api_types.specs.declared.answer.Shown.{Shown}
use Rattle.api_types.specs.declared.kind.Kind.{Kind}
use Rattle.json_trees.specs.Printed.{tree_data, list, body_text, only}
use Rattle.json_replies.specs.Bodies.{row_tree, answer_tree}
use Rattle.api_types.specs.Titles.{collection_of}

shown_rows : (rows : List Shown) → map (λ s. row_tree (shown_row s)) rows ≡ map row_tree (map shown_row rows)
shown_rows [] = refl
shown_rows (row ∷ rows) = ap (λ ts. row_tree (shown_row row) ∷ ts) (shown_rows rows)

-- the rows of a kind under the member of that kind
pub many_rows : (kind : Kind) (rows : List Shown) (name : List ℕ) → name ≡ collection_of kind
    → compact_text (tree_data (only name (list (map (λ s. row_tree (shown_row s)) rows)))) ≡ body_text (answer_tree (ManyRows kind (map shown_row rows)))
many_rows kind rows name is =
    ap (λ n. compact_text (tree_data (only n (list (map (λ s. row_tree (shown_row s)) rows))))) is
    ∙ ap (λ ts. compact_text (tree_data (only (collection_of kind) (list ts)))) (shown_rows rows)
