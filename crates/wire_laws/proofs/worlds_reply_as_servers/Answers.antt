use Rattle.wire_laws.proofs.MomentLaw.{moment_reply, opened_accepted}
use Rattle.wire_laws.proofs.worlds_reply_as_servers.Goals as goal

pub returns-clause-replies : goal.returns-clause-replies
returns-clause-replies c = moment_reply

pub returns-clause-accepted : goal.returns-clause-accepted
returns-clause-accepted c = opened_accepted
