use Rattle.neutron_serve.proofs.Promising.{session_promised}
use Rattle.neutron_serve.proofs.sessions.session.Goals as goal

pub returns-clause-promises : goal.returns-clause-promises
returns-clause-promises g c = session_promised c.args.limit _ _ c.session.result c.rows-rows.ensures.world c.session.ensures.serves
