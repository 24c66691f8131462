use Rattle.std.proofs.Common.{ap, codes}
use Rattle.std.proofs.lemmas.Result.{err_from_is_err_and}
use Rattle.serde_json.specs.Find.{get}
use Rattle.wire_text.proofs.part.TargetFromJson.from_json.Goals as goal

pub returns-in_err-fixed-clause-reads : goal.returns-in_err-fixed-clause-reads
returns-in_err-fixed-clause-reads c x fit is =
    let p = err_from_is_err_and c.from_residual.result c.from_residual.ensures.1 in
    rw (p.1, p.2) (c.in_err-fixed.ensures.reads x.fixed (fit.1) (ap (get (codes "fixed")) is))

pub returns-in_err-port-clause-reads : goal.returns-in_err-port-clause-reads
returns-in_err-port-clause-reads c x fit is =
    let p = err_from_is_err_and c.from_residual-in_err-port.result c.from_residual-in_err-port.ensures.1 in
    rw (p.1, p.2) (c.in_err-port.ensures.reads x.port (fit.0) (ap (get (codes "port")) is))

pub returns-in_err-router-clause-reads : goal.returns-in_err-router-clause-reads
returns-in_err-router-clause-reads c x fit is =
    let p = err_from_is_err_and c.from_residual-in_err-router.result c.from_residual-in_err-router.ensures.1 in
    rw (p.1, p.2) (c.in_err-router.ensures.reads x.router (fit.2) (ap (get (codes "router")) is))

pub returns-clause-reads : goal.returns-clause-reads
returns-clause-reads c x fit is = λ j. record { fixed = c.in_ok-fixed.ensures.reads x.fixed (fit.1) (ap (get (codes "fixed")) is) j; port = c.in_ok-port.ensures.reads x.port (fit.0) (ap (get (codes "port")) is) j; router = c.in_ok-router.ensures.reads x.router (fit.2) (ap (get (codes "router")) is) j }

pub returns-clause-fits : goal.returns-clause-fits
returns-clause-fits c = (c.in_ok-port.ensures.fits, c.in_ok-fixed.ensures.fits, c.in_ok-router.ensures.fits)
