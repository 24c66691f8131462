use Rattle.std.proofs.Common.{ap, codes}
use Rattle.std.proofs.lemmas.Result.{err_from_is_err_and}
use Rattle.serde_json.specs.Find.{get}
use Rattle.wire_text.proofs.part.GatewayFromJson.from_json.Goals as goal

pub returns-in_err-network-clause-reads : goal.returns-in_err-network-clause-reads
returns-in_err-network-clause-reads c x fit is =
    let p = err_from_is_err_and c.from_residual.result c.from_residual.ensures.1 in
    rw (p.1, p.2) (c.in_err-network.ensures.reads x.network (fit.0) (ap (get (codes "network")) is))

pub returns-in_err-port-clause-reads : goal.returns-in_err-port-clause-reads
returns-in_err-port-clause-reads c x fit is =
    let p = err_from_is_err_and c.from_residual-in_err-port.result c.from_residual-in_err-port.ensures.1 in
    rw (p.1, p.2) (c.in_err-port.ensures.reads x.port (fit.1) (ap (get (codes "port")) is))

pub returns-in_err-snat-clause-reads : goal.returns-in_err-snat-clause-reads
returns-in_err-snat-clause-reads c x fit is =
    let p = err_from_is_err_and c.from_residual-in_err-snat.result c.from_residual-in_err-snat.ensures.1 in
    rw (p.1, p.2) (c.in_err-snat.ensures.reads x.snat (tt) (ap (get (codes "snat")) is))

pub returns-clause-reads : goal.returns-clause-reads
returns-clause-reads c x fit is = λ j. record { network = c.in_ok-network.ensures.reads x.network (fit.0) (ap (get (codes "network")) is) j; port = c.in_ok-port.ensures.reads x.port (fit.1) (ap (get (codes "port")) is) j; snat = c.in_ok-snat.ensures.reads x.snat (tt) (ap (get (codes "snat")) is) j }

pub returns-clause-fits : goal.returns-clause-fits
returns-clause-fits c = (c.in_ok-network.ensures.fits, c.in_ok-port.ensures.fits)
