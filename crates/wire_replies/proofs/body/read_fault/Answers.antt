use Rattle.std.proofs.lemmas.Result.{IfErr-weaker, IfOk-weaker}
use Rattle.wire_replies.specs.ReplyTexts.{IsRefused}
use Rattle.wire_replies.proofs.BodyLemmas.{no_fault, unlisted}
use Rattle.wire_replies.proofs.body.read_fault.Goals as goal

pub returns-in-Ok-clause-ok : goal.returns-in-Ok-clause-ok
returns-in-Ok-clause-ok c =
    let x = c.in-Ok.said in
    IfOk-weaker c.judge_fault.result _ (IsRefused c.args.code c.args.body.now)
    (λ r found. record { type = x.kind; detail = x.detail; message = x.message; listed = found.0; words = c.in-Ok.ensures.ok.0; utf8 = c.requires.utf8; text = c.in-Ok.ensures.ok.1; is = found.1 }) c.judge_fault.ensures.ok

pub returns-in-Ok-clause-bad : goal.returns-in-Ok-clause-bad
returns-in-Ok-clause-bad c =
    IfErr-weaker c.judge_fault.result _ _ (λ e none bad. unlisted c.args.code c.args.body.now c.in-Ok.said c.in-Ok.ensures.ok.0 c.in-Ok.ensures.ok.1 none) c.judge_fault.ensures.bad

pub returns-in-Err-clause-bad : goal.returns-in-Err-clause-bad
returns-in-Err-clause-bad c = λ bad. no_fault c.args.code c.args.body.now (c.in-Err.ensures.bad bad)
