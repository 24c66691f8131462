use Rattle.std.proofs.Common.{◌≡◌, ◌∙◌, ap, sym, true, rules}
use Rattle.serde_json.specs.Written.{has_float, compact_text}
use Rattle.serde_json.proofs.FreeTexts.{text_of_value}
use Rattle.json_trees.proofs.PrintedLemmas.{tree_no_float}
use Rattle.json_replies.specs.Straight.{ascends, straight}
use Rattle.json_replies.proofs.StraightLemmas.{straight_data}
use Rattle.json_replies.proofs.sending.write_shown.Goals as goal

pub returns-in-Ok : goal.returns-in-Ok
returns-in-Ok g c =
    let t = g.T.Prints.tree c.args.value.now in
    let in_order : ascends t ≡ true = search rules in
    let same = straight_data t in_order in
    let sent = c.in-Ok.ensures.events in
    c.from_vec.ensures ∙ text_of_value (straight t) sent.0 c.in-Ok.bytes.items sent.1 sent.2 (ap has_float (sym same) ∙ tree_no_float t) ∙ ap compact_text (sym same)
