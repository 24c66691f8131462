use Rattle.std.proofs.Common.{subst, take, arith}
use Rattle.agent_links.specs.Wholes.{IsLengthOf}
use Rattle.agent_links.proofs.WholeLemmas.{found_still, none_still}
use Rattle.agent_links.proofs.whole.look_again.Goals as goal

pub returns-in-Some : goal.returns-in-Some
returns-in-Some c =
    found_still c.args.seen c.args.bytes.now c.in-Some.length (subst (IsLengthOf (take c.args.seen c.args.bytes.now)) c.in-Some.is c.requires.found)

pub returns-else-seen-lt-HEAD_LIMIT : goal.returns-else-seen-lt-HEAD_LIMIT
returns-else-seen-lt-HEAD_LIMIT c =
    none_still c.args.seen c.args.bytes.now c.requires.seen (omega arith) (subst (IsLengthOf (take c.args.seen c.args.bytes.now)) c.in-None.is c.requires.found)
