use Rattle.wire_replies.proofs.BodyLemmas.{no_change}
use Rattle.wire_replies.proofs.body.read_change.Goals as goal

pub returns-in-Ok-clause-ok : goal.returns-in-Ok-clause-ok
returns-in-Ok-clause-ok c = record { values = c.in-Ok.ensures.ok.0; utf8 = c.requires.utf8; text = c.in-Ok.ensures.ok.1 }

pub returns-in-Err-clause-bad : goal.returns-in-Err-clause-bad
returns-in-Err-clause-bad c = λ bad. no_change c.args.body.now (c.in-Err.ensures.bad bad)
