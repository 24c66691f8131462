use Rattle.std.proofs.Common.{map, drop}
use Rattle.serde.specs.Event.{Log}
use Rattle.serde_json.specs.Events.{SendsItems, SendsMembers}
use Rattle.api_types.specs.Printed.{tree_of, trees_of, branches_of, member_of}
use Rattle.json_replies.specs.Straight.{straight_items, straight_members}
use Rattle.json_replies.proofs.sending.+send.Given as goal

-- whatever ends it well from here ends it well from the start
abbrev pub invariant-send_items-loop-item : goal.invariant-send_items-loop-item
invariant-send_items-loop-item g l =
    (end : Log) → SendsItems (straight_items (trees_of (map tree_of (drop l.item-index l.items)))) (g.S.Serializer.written l.out) end → SendsItems (straight_items (trees_of (map tree_of l.items))) (g.S.Serializer.written l.initial.out) end

abbrev pub invariant-send_members-loop-name : goal.invariant-send_members-loop-name
invariant-send_members-loop-name g l =
    (end : Log) → SendsMembers (straight_members (branches_of (map member_of (drop l.name-index l.members)))) (g.S.Serializer.written l.out) end → SendsMembers (straight_members (branches_of (map member_of l.members))) (g.S.Serializer.written l.initial.out) end
