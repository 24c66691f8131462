use Rattle.neutron_http.specs.Queries.{query_read}
use Rattle.neutron_serve.proofs.Asking.{query_read_back}
use Rattle.neutron_serve.proofs.ask.queried.Goals as goal

pub returns-in-Ok-clause-ok : goal.returns-in-Ok-clause-ok
returns-in-Ok-clause-ok c body =
    query_read_back c.args.route.now body (query_read c.args.route.now.path c.args.route.now.method c.args.query.now) c.in-Ok.asked c.in-Ok.ensures
