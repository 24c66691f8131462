use Rattle.std.proofs.Common.{arith, sym, true≢false, ◌∙◌}
use Rattle.std.proofs.lemmas.Bool.Decides.{nat_tests}
use Rattle.wire_replies.proofs.reply.read_parts.Goals as goal

pub returns-in-Err-BadText : goal.returns-in-Err-BadText
returns-in-Err-BadText c = λ r w. c.in-Err-BadText.ensures.bad c.in-Err-BadText.field-0-is r w.2

pub returns : goal.returns
returns c = λ r w. true≢false (sym (c.in_ok-is_written.ensures.1 w.1) ∙ c.if-branch.false)

pub returns-then-branch : goal.returns-then-branch
returns-then-branch c = (
  grind (arith, nat_tests, c.if-body-gt-BODY_LIMIT.false),
  c.in_ok-is_written.ensures.0 c.if-branch.true,
  c.in-Ok.ensures.ok,
)
