use Rattle.std.proofs.Common.{ap, codes}
use Rattle.std.proofs.lemmas.Result.{err_from_is_err_and}
use Rattle.serde_json.specs.Find.{get}
use Rattle.wire_text.proofs.router.RouterRowFromJson.from_json.Goals as goal

pub returns-in_err-description-clause-reads : goal.returns-in_err-description-clause-reads
returns-in_err-description-clause-reads c x fit is =
    let p = err_from_is_err_and c.from_residual.result c.from_residual.ensures.1 in
    rw (p.1, p.2) (c.in_err-description.ensures.reads x.description (fit.description) (ap (get (codes "description")) is))

pub returns-in_err-gateway-clause-reads : goal.returns-in_err-gateway-clause-reads
returns-in_err-gateway-clause-reads c x fit is =
    let p = err_from_is_err_and c.from_residual-in_err-gateway.result c.from_residual-in_err-gateway.ensures.1 in
    rw (p.1, p.2) (c.in_err-gateway.ensures.reads x.gateway (fit.gateway) (ap (get (codes "gateway")) is))

pub returns-in_err-host-clause-reads : goal.returns-in_err-host-clause-reads
returns-in_err-host-clause-reads c x fit is =
    let p = err_from_is_err_and c.from_residual-in_err-host.result c.from_residual-in_err-host.ensures.1 in
    rw (p.1, p.2) (c.in_err-host.ensures.reads x.host (fit.host) (ap (get (codes "host")) is))

pub returns-in_err-id-clause-reads : goal.returns-in_err-id-clause-reads
returns-in_err-id-clause-reads c x fit is =
    let p = err_from_is_err_and c.from_residual-in_err-id.result c.from_residual-in_err-id.ensures.1 in
    rw (p.1, p.2) (c.in_err-id.ensures.reads x.id (fit.id) (ap (get (codes "id")) is))

pub returns-in_err-name-clause-reads : goal.returns-in_err-name-clause-reads
returns-in_err-name-clause-reads c x fit is =
    let p = err_from_is_err_and c.from_residual-in_err-name.result c.from_residual-in_err-name.ensures.1 in
    rw (p.1, p.2) (c.in_err-name.ensures.reads x.name (fit.name) (ap (get (codes "name")) is))

pub returns-in_err-project-clause-reads : goal.returns-in_err-project-clause-reads
returns-in_err-project-clause-reads c x fit is =
    let p = err_from_is_err_and c.from_residual-in_err-project.result c.from_residual-in_err-project.ensures.1 in
    rw (p.1, p.2) (c.in_err-project.ensures.reads x.project (fit.project) (ap (get (codes "project")) is))

pub returns-in_err-routes-clause-reads : goal.returns-in_err-routes-clause-reads
returns-in_err-routes-clause-reads c x fit is =
    let p = err_from_is_err_and c.from_residual-in_err-routes.result c.from_residual-in_err-routes.ensures.1 in
    rw (p.1, p.2) (c.in_err-routes.ensures.reads x.routes (fit.routes) (ap (get (codes "routes")) is))

pub returns-in_err-up-clause-reads : goal.returns-in_err-up-clause-reads
returns-in_err-up-clause-reads c x fit is =
    let p = err_from_is_err_and c.from_residual-in_err-up.result c.from_residual-in_err-up.ensures.1 in
    rw (p.1, p.2) (c.in_err-up.ensures.reads x.up (tt) (ap (get (codes "up")) is))

pub returns-clause-reads : goal.returns-clause-reads
returns-clause-reads c x fit is = λ j. record { description = c.in_ok-description.ensures.reads x.description (fit.description) (ap (get (codes "description")) is) j; gateway = c.in_ok-gateway.ensures.reads x.gateway (fit.gateway) (ap (get (codes "gateway")) is) j; host = c.in_ok-host.ensures.reads x.host (fit.host) (ap (get (codes "host")) is) j; id = c.in_ok-id.ensures.reads x.id (fit.id) (ap (get (codes "id")) is) j; name = c.in_ok-name.ensures.reads x.name (fit.name) (ap (get (codes "name")) is) j; project = c.in_ok-project.ensures.reads x.project (fit.project) (ap (get (codes "project")) is) j; routes = c.in_ok-routes.ensures.reads x.routes (fit.routes) (ap (get (codes "routes")) is) j; up = c.in_ok-up.ensures.reads x.up (tt) (ap (get (codes "up")) is) j }

pub returns-clause-fits : goal.returns-clause-fits
returns-clause-fits c = record { id = c.in_ok-id.ensures.fits; project = c.in_ok-project.ensures.fits; name = c.in_ok-name.ensures.fits; description = c.in_ok-description.ensures.fits; host = c.in_ok-host.ensures.fits; gateway = c.in_ok-gateway.ensures.fits; routes = c.in_ok-routes.ensures.fits }
