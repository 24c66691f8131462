use Rattle.std.proofs.Common.{◌≡◌, map, take}
use Rattle.serde_json.specs.View.{view}
use Rattle.json_trees.specs.Printed.{tree_data}
use Rattle.json_replies.proofs.printed.values.Given as goal

-- the values so far
abbrev pub invariant-loop-item : goal.invariant-loop-item
invariant-loop-item g l = map view l.values.items ≡ map (λ x. tree_data (g.T.Prints.tree x)) (take l.item-index l.items)
