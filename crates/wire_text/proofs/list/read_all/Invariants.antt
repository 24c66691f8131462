use Rattle.std.proofs.Common.{◌≡◌, map}
use Rattle.serde_json.specs.View.{view}
use Rattle.api_types.specs.Lists.{Each}
use Rattle.json_trees.specs.Printed.{tree_data}
use Rattle.wire_text.proofs.ListsRead.{Left}
use Rattle.wire_text.proofs.list.read_all.Given as goal

-- what was read fits, and is the front of any list that has these values
abbrev pub invariant-loop-value : goal.invariant-loop-value
invariant-loop-value g l =
    Each g.T.FromJson.fits l.items
    × ((xs : _) → Each g.T.FromJson.fits xs → map view l.values ≡ map (λ x. tree_data (g.T.ToJson.tree x)) xs
    → Left (λ x. tree_data (g.T.ToJson.tree x)) g.T.FromJson.fits l.values l.value-index l.items xs)
