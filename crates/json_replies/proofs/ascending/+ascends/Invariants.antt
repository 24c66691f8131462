use Rattle.std.proofs.Common.{◌≡◌, None, map, drop, option_map}
use Rattle.api_types.specs.Printed.{tree_of, trees_of, branches_of, member_of}
use Rattle.json_replies.specs.Straight.{trees_ascend, branches_ascend}
use Rattle.json_replies.proofs.ascending.+ascends.Given as goal

-- what is left decides
abbrev pub invariant-items_ascend-loop-item : goal.invariant-items_ascend-loop-item
invariant-items_ascend-loop-item l = trees_ascend (trees_of (map tree_of l.items)) ≡ trees_ascend (trees_of (map tree_of (drop l.item-index l.items)))

abbrev pub invariant-members_ascend-loop-name : goal.invariant-members_ascend-loop-name
invariant-members_ascend-loop-name l = branches_ascend None (branches_of (map member_of l.members)) ≡ branches_ascend (option_map (λ t. t.now) l.last) (branches_of (map member_of (drop l.name-index l.members)))
