use Rattle.std.proofs.Common.{◌≡◌, map, take}
use Rattle.serde_json.specs.Data.{no_members}
use Rattle.serde_json.specs.View.{view, members_view}
use Rattle.api_types.specs.Printed.{tree_of, member_of}
use Rattle.json_trees.specs.Printed.{tree_data, members_data}
use Rattle.json_replies.proofs.printed.+json.Given as goal

-- the values so far
abbrev pub invariant-values_of-loop-item : goal.invariant-values_of-loop-item
invariant-values_of-loop-item l = map view l.values.items ≡ map (λ p. tree_data (tree_of p)) (take l.item-index l.items)

-- the members so far
abbrev pub invariant-members_of-loop-name : goal.invariant-members_of-loop-name
invariant-members_of-loop-name l = members_view l.map.entries ≡ members_data (map member_of (take l.name-index l.members)) no_members
