use Rattle.wire_replies.proofs.BodyLemmas.{no_answer}
use Rattle.wire_replies.proofs.body.read_answer.Goals as goal

pub returns-in-Err-clause-bad : goal.returns-in-Err-clause-bad
returns-in-Err-clause-bad c = λ bad. no_answer c.args.body.now (c.in-Err.ensures.bad bad)
