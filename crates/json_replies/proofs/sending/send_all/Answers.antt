use Rattle.std.proofs.Common.{◌≡◌, [], drop, map, Some, sym, subst, arith}
use Rattle.std.proofs.lemmas.List.{drop_all}
use Rattle.std.proofs.lemmas.Result.{on_ok_weaker}
use Rattle.serde.specs.Event.{Logs, seq_begins}
use Rattle.serde_json.specs.Events.{SendsItems}
use Rattle.api_types.specs.Printed.{trees_of}
use Rattle.json_replies.specs.Straight.{straight_items}
use Rattle.json_replies.proofs.StraightLemmas.{items_count}
use Rattle.json_replies.proofs.sending.send_all.Goals as goal

pub returns : goal.returns
returns g c =
    let xs = c.args.values.now in
    let first = g.S.Serializer.written c.begin_seq.new.self in
    let end = g.S.Serializer.written c.end_seq.new.self in
    let begun = subst (λ n. Logs (g.S.Serializer.written c.args.out.now) first (seq_begins (Some n))) (sym (items_count g.T.Prints.tree xs)) c.in_ok-begin_seq.ensures in
    let none : drop c.loop-value.value-index xs ≡ [] = drop_all c.loop-value.value-index xs (omega arith) in
    on_ok_weaker c.end_seq.result (λ e. (
      first,
      begun,
      c.loop-value.invariant end (subst (λ ys. SendsItems (straight_items (trees_of (map g.T.Prints.tree ys))) (g.S.Serializer.written c.loop-value.out) end) (sym none) e),
    )) c.end_seq.ensures
