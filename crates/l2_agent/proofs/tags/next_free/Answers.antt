use Rattle.std.proofs.Common.{◌∙◌, ap, not, sym}
use Rattle.l2_agent.proofs.FreeLemmas.{first_kept}
use Rattle.l2_agent.proofs.tags.next_free.Goals as goal

pub loop-tag-preserved : goal.loop-tag-preserved
loop-tag-preserved c = c.loop-tag.invariant ∙ first_kept c.args.kept.now c.loop-tag.tag c.loop-tag-test.true (ap not (sym c.is_kept.ensures ∙ c.if-not-is_kept.false))
