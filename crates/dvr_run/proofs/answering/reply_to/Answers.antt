use Rattle.std.proofs.Common.{ap, ◌++◌, ◌∙◌}
use Rattle.dvr_run.proofs.PrintLemmas.{line-printed}
use Rattle.dvr_run.specs.Lines.{with_feed}
use Rattle.dvr_run.proofs.answering.reply_to.Goals as goal

pub returns-clause-reply : goal.returns-clause-reply
returns-clause-reply c =
    line-printed c.args.hosts.now c.args.event.now c.in_ok-verdict.verdict c.as_slice.result.now c.push.new.self.items c.in_ok-verdict.ensures.verdict (c.as_slice.ensures ∙ c.in_ok-reply.ensures)
    (c.in_ok-push.ensures.items ∙ ap with_feed (c.in_ok-extend_from_slice.ensures.items ∙ ap (λ l. l ++ c.as_slice.result.now) c.new-line.ensures.items))
