use Rattle.http_session.proofs.Turning.{short_of}
use Rattle.http_session.proofs.turn.send_reply.Goals as goal

pub returns-in-Err-Failed-clause-is : goal.returns-in-Err-Failed-clause-is
returns-in-Err-Failed-clause-is g c = short_of _ _ c.args.reply.now c.in-Err-Failed.ensures.flushed_stays c.in-Err-Failed.ensures.err

pub returns-in-Err-OutOfMemory-clause-is : goal.returns-in-Err-OutOfMemory-clause-is
returns-in-Err-OutOfMemory-clause-is g c = short_of _ _ c.args.reply.now c.in-Err-OutOfMemory.ensures.flushed_stays c.in-Err-OutOfMemory.ensures.err
