use Rattle.http_session.proofs.Heading.{reads_on}
use Rattle.http_session.proofs.reading.await_request.Goals as goal

pub returns-in-Found-clause-reads : goal.returns-in-Found-clause-reads
returns-in-Found-clause-reads g c = reads_on c.args.buffer.now c.await_head.new.buffer c.await_body.new.buffer _ _ _ c.args.taken.now c.await_head.new.taken c.await_body.new.taken c.in-Found.ensures.reads c.await_body.ensures.reads

pub returns-in-Found-clause-last : goal.returns-in-Found-clause-last
returns-in-Found-clause-last g c = λ h. c.await_body.ensures.last (c.in-Found.ensures.last h)
