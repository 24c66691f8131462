use Rattle.wire_replies.proofs.BodyLemmas.{no_refusal}
use Rattle.wire_replies.proofs.body.read_refusal.Goals as goal

pub returns-in-Err-clause-bad : goal.returns-in-Err-clause-bad
returns-in-Err-clause-bad c = λ bad. no_refusal c.args.code c.args.body.now (c.in-Err.ensures.bad bad)
