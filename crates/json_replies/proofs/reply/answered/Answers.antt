use Rattle.std.proofs.Common.{◌∙◌, ap, sym}
use Rattle.std.proofs.lemmas.Result.{IfOk-weaker}
use Rattle.api_types.specs.Printed.{reply_of}
use Rattle.json_trees.specs.Printed.{body_text}
use Rattle.json_replies.specs.Bodies.{answer_tree}
use Rattle.json_replies.proofs.RowLemmas.{many_rows}
use Rattle.json_replies.proofs.reply.answered.Goals as goal

pub returns-in-Many : goal.returns-in-Many
returns-in-Many c =
    IfOk-weaker c.show-in-Many.result _ _ (λ b h. h ∙ many_rows c.in-Many.kind c.in-Many.rows _ c.collection.ensures ∙ ap (λ a. body_text (answer_tree (reply_of a))) (sym c.in-Many.is)) c.show-in-Many.ensures
