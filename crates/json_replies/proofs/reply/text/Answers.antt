use Rattle.std.proofs.Common.{◌∙◌}
use Rattle.json_trees.proofs.PrintedLemmas.{written}
use Rattle.json_replies.proofs.reply.text.Goals as goal

pub returns : goal.returns
returns g c = c.from_vec.ensures ∙ written (g.T.Prints.tree c.args.value.now) _ _ c.in_ok-value.ensures c.in_ok-to_vec.ensures.text
