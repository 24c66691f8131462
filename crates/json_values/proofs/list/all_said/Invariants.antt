use Rattle.std.proofs.Common.{◌≡◌, drop, map}
use Rattle.serde_json.specs.View.{view}
use Rattle.json_values.specs.Values.{all_said}
use Rattle.json_values.proofs.ListLemmas.{behind}
use Rattle.json_values.proofs.list.all_said.Given as goal

-- the items so far before those of the values that are left
abbrev pub invariant-loop-value : goal.invariant-loop-value
invariant-loop-value g l = behind l.items (all_said g.T.Item.says (map view (drop l.value-index l.values))) ≡ all_said g.T.Item.says (map view l.values)
