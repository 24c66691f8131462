use Rattle.std.proofs.Common.{◌≡◌, ◌∙◌, List, [], ◌∷◌, ap, map, refl}
use Rattle.serde_json.specs.Data.{Data}
use Rattle.serde_json.specs.Find.{as_array}
use Rattle.serde_json.specs.View.{items_of, items_view, view}
use Rattle.api_types.specs.Printed.{trees_of}
use Rattle.api_types.proofs.ListLemmas.{some_equal}
use Rattle.json_trees.specs.Printed.{tree_data, trees_data}
use Rattle.json_trees.proofs.PrintedLemmas.{items_data}
use Rattle.wire_text.proofs.list.SeqFromJson.from_json.Goals as goal

items_same : (xs ys : List Data) → items_of xs ≡ items_of ys → xs ≡ ys
items_same [] [] e = refl
items_same [] (y ∷ ys) e = absurd cc
items_same (x ∷ xs) [] e = absurd cc
items_same (x ∷ xs) (y ∷ ys) e =
    let head : x ≡ y = cc in
    let tail : items_of xs ≡ items_of ys = cc in
    λ j. head j ∷ items_same xs ys tail j

pub returns-in-Some-clause-reads : goal.returns-in-Some-clause-reads
returns-in-Some-clause-reads g c x fit is =
    c.read_all.ensures.reads x fit (ap (map view) c.as_slice.ensures.value
    ∙ items_same (map view c.in-Some.values.now.items) (map (λ y. tree_data (g.T.ToJson.tree y)) x)
    (some_equal (items_view c.in-Some.values.now.items) (trees_data (trees_of (map g.T.ToJson.tree x))) (c.in-Some.ensures ∙ ap as_array is) ∙ items_data g.T.ToJson.tree x))
