use Rattle.std.proofs.Common.{◌≡◌, map, take}
use Rattle.serde_json.specs.View.{view}
use Rattle.json_trees.specs.Printed.{tree_data}
use Rattle.wire_text.proofs.list.write_all.Given as goal

-- the values so far
abbrev pub invariant-loop-item : goal.invariant-loop-item
invariant-loop-item g l = map view l.values.items ≡ map (λ x. tree_data (g.T.ToJson.tree x)) (take l.item-index l.items)
