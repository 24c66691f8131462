use Rattle.std.proofs.Common.{map, drop}
use Rattle.serde.specs.Event.{Log}
use Rattle.serde_json.specs.Events.{SendsItems}
use Rattle.api_types.specs.Printed.{trees_of}
use Rattle.json_replies.specs.Straight.{straight_items}
use Rattle.json_replies.proofs.sending.send_all.Given as goal

-- whatever ends it well from here ends it well from the start
abbrev pub invariant-loop-value : goal.invariant-loop-value
invariant-loop-value g l =
    (end : Log) → SendsItems (straight_items (trees_of (map g.T.Prints.tree (drop l.value-index l.values)))) (g.S.Serializer.written l.out) end → SendsItems (straight_items (trees_of (map g.T.Prints.tree l.values))) (g.S.Serializer.written l.initial.out) end
