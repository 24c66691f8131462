use Rattle.std.proofs.Common.{inl, inr, refl, sym, true≢false}
use Rattle.std.proofs.lemmas.Result.{IfErr-weaker, IfOk-weaker}
use Rattle.wire_replies.specs.ReplyTexts.{Says}
use Rattle.wire_replies.proofs.FaultLemmas.{says_answer, says_refused}
use Rattle.wire_replies.proofs.body.read_body.Goals as goal

pub returns-then-is_success-clause-ok : goal.returns-then-is_success-clause-ok
returns-then-is_success-clause-ok c =
    IfOk-weaker c.read_answer.result _ (Says c.args.code c.args.body.now) (λ r is. inl (c.if-is_success.ensures.0 refl, is)) c.read_answer.ensures.ok

pub returns-then-is_success-clause-bad : goal.returns-then-is_success-clause-bad
returns-then-is_success-clause-bad c =
    IfErr-weaker c.read_answer.result _ _ (λ e none bad. says_answer c.args.code c.args.body.now (c.if-is_success.ensures.0 refl) (none bad)) c.read_answer.ensures.bad

pub returns-clause-ok : goal.returns-clause-ok
returns-clause-ok c =
    IfOk-weaker c.read_refusal.result _ (Says c.args.code c.args.body.now) (λ r is. inr is) c.read_refusal.ensures.ok

pub returns-clause-bad : goal.returns-clause-bad
returns-clause-bad c =
    IfErr-weaker c.read_refusal.result _ _ (λ e none bad. says_refused c.args.code c.args.body.now (λ is. true≢false (sym (c.if-is_success.ensures.1 is))) (none bad)) c.read_refusal.ensures.bad
