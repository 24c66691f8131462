use Rattle.std.proofs.Common.{◌≡◌, [], drop, map, Some, sym, subst, arith, rules}
use Rattle.std.proofs.lemmas.List.{drop_all}
use Rattle.std.proofs.lemmas.Result.{on_ok_weaker}
use Rattle.std.specs.Prelude.{OnOk}
use Rattle.serde_json.specs.Data.{object}
use Rattle.serde.specs.Event.{Logs, seq_begins, map_begins}
use Rattle.serde_json.specs.Events.{SendsItems, SendsMembers, SendsValue}
use Rattle.api_types.specs.Printed.{tree_of, trees_of, branches_of, member_of}
use Rattle.api_types.specs.declared.answer.Printed.{the_lemmas as printed_lemmas}
use Rattle.json_replies.specs.Straight.{straight, straight_items, straight_members}
use Rattle.json_replies.proofs.StraightLemmas.{items_count, members_count}
use Rattle.json_replies.proofs.sending.+send.Goals as goal

pub send_items-returns : goal.send_items-returns
send_items-returns g t c =
    let xs = c.args.items.now in
    let first = g.S.Serializer.written c.begin_seq.new.self in
    let end = g.S.Serializer.written c.end_seq.new.self in
    let begun = subst (λ n. Logs (g.S.Serializer.written c.args.out.now) first (seq_begins (Some n))) (sym (items_count tree_of xs)) c.in_ok-begin_seq.ensures in
    let none : drop c.loop-item.item-index xs ≡ [] = drop_all c.loop-item.item-index xs (omega arith) in
    on_ok_weaker c.end_seq.result (λ e. (
      first,
      begun,
      c.loop-item.invariant end (subst (λ ys. SendsItems (straight_items (trees_of (map tree_of ys))) (g.S.Serializer.written c.loop-item.out) end) (sym none) e),
    )) c.end_seq.ensures

pub send_members-returns : goal.send_members-returns
send_members-returns g t c =
    let xs = c.args.members.now in
    let first = g.S.Serializer.written c.begin_map.new.self in
    let end = g.S.Serializer.written c.end_map.new.self in
    let begun = subst (λ n. Logs (g.S.Serializer.written c.args.out.now) first (map_begins (Some n))) (sym (members_count member_of xs)) c.in_ok-begin_map.ensures in
    let none : drop c.loop-name.name-index xs ≡ [] = drop_all c.loop-name.name-index xs (omega arith) in
    on_ok_weaker c.end_map.result (λ e. (
      first,
      begun,
      c.loop-name.invariant end (subst (λ ys. SendsMembers (straight_members (branches_of (map member_of ys))) (g.S.Serializer.written c.loop-name.out) end) (sym none) e),
    )) c.end_map.ensures

pub send-returns-in-Object : goal.send-returns-in-Object
send-returns-in-Object g t c =
    let same : object (straight_members (branches_of (map member_of c.as_slice-in-Object.result.now))) ≡ straight (tree_of c.args.printed.now) = search (rules, printed_lemmas) in
    subst (λ d. OnOk c.send_members.result (SendsValue d (g.S.Serializer.written c.args.out.now) (g.S.Serializer.written c.send_members.new.out))) same c.send_members.ensures
