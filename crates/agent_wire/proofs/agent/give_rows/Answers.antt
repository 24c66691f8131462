use Rattle.agent_wire.proofs.PhaseLemmas.{given_again, given_first}
use Rattle.agent_wire.proofs.agent.give_rows.Goals as goal

pub returns-in_ok-resync-in-Some-clause-ok : goal.returns-in_ok-resync-in-Some-clause-ok
returns-in_ok-resync-in-Some-clause-ok c =
    given_again c.args.node.now c.in-Some.node c.resync.new.self c.args.host.now c.args.version c.args.rows.now c.in-Some.is c.in_ok-resync-in-Some.ensures.agent

pub returns-in_ok-make-in-None-clause-ok : goal.returns-in_ok-make-in-None-clause-ok
returns-in_ok-make-in-None-clause-ok c =
    given_first c.args.node.now c.in_ok-make-in-None.field-0 c.in_ok-host-in-None.host c.args.host.now c.args.version c.args.rows.now c.in-None.is c.in_ok-host-in-None.ensures c.in_ok-make-in-None.ensures
