use Rattle.std.proofs.Common.{subst}
use Rattle.std.proofs.lemmas.Result.{err_from_is_err_and}
use Rattle.std.specs.Prelude.{◌≡◌, Ok, IfOk, IfErr}
use Rattle.neutron_serve.specs.Reading.{IsUnread}
use Rattle.neutron_serve.proofs.Asking.{asked_is, query_unread, route_unread}
use Rattle.neutron_serve.proofs.ask.read_asked.Goals as goal

pub returns-in_err-route-clause-err : goal.returns-in_err-route-clause-err
returns-in_err-route-clause-err c =
    let p = err_from_is_err_and c.from_residual.result c.from_residual.ensures.1 in
    rw (p.1, p.2) (route_unread c.args.method.now c.args.path.now c.args.query.now c.args.body.now _ (c.in_err-route.ensures.err c.args.query.now c.args.body.now))

pub returns-in_err-query-clause-err : goal.returns-in_err-query-clause-err
returns-in_err-query-clause-err c =
    let p = err_from_is_err_and c.from_residual-in_err-query.result c.from_residual-in_err-query.ensures.1 in
    rw (p.1, p.2) (query_unread c.args.method.now c.args.path.now c.args.query.now c.args.body.now c.in_ok-route.route _ c.in_ok-route.ensures.ok (c.in_err-query.ensures.err c.args.body.now))

pub returns-clause-ok : goal.returns-clause-ok
returns-clause-ok c =
    subst (λ t. IfOk c.bodied.result (λ ask. t ≡ Ok ask))
    (asked_is c.args.method.now c.args.path.now c.args.query.now c.args.body.now c.in_ok-route.route c.in_ok-query.query c.in_ok-route.ensures.ok (c.in_ok-query.ensures.ok c.args.body.now))
    c.bodied.ensures.ok

pub returns-clause-err : goal.returns-clause-err
returns-clause-err c =
    subst (λ t. IfErr c.bodied.result (IsUnread t))
    (asked_is c.args.method.now c.args.path.now c.args.query.now c.args.body.now c.in_ok-route.route c.in_ok-query.query c.in_ok-route.ensures.ok (c.in_ok-query.ensures.ok c.args.body.now))
    c.bodied.ensures.err
