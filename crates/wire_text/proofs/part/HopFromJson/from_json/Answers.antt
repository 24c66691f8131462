use Rattle.std.proofs.Common.{ap, codes}
use Rattle.std.proofs.lemmas.Result.{err_from_is_err_and}
use Rattle.serde_json.specs.Find.{get}
use Rattle.wire_text.proofs.part.HopFromJson.from_json.Goals as goal

pub returns-in_err-destination-clause-reads : goal.returns-in_err-destination-clause-reads
returns-in_err-destination-clause-reads c x fit is =
    let p = err_from_is_err_and c.from_residual.result c.from_residual.ensures.1 in
    rw (p.1, p.2) (c.in_err-destination.ensures.reads x.destination (fit.0) (ap (get (codes "destination")) is))

pub returns-in_err-next-clause-reads : goal.returns-in_err-next-clause-reads
returns-in_err-next-clause-reads c x fit is =
    let p = err_from_is_err_and c.from_residual-in_err-next.result c.from_residual-in_err-next.ensures.1 in
    rw (p.1, p.2) (c.in_err-next.ensures.reads x.next (fit.1) (ap (get (codes "nexthop")) is))

pub returns-clause-reads : goal.returns-clause-reads
returns-clause-reads c x fit is = λ j. record { destination = c.in_ok-destination.ensures.reads x.destination (fit.0) (ap (get (codes "destination")) is) j; next = c.in_ok-next.ensures.reads x.next (fit.1) (ap (get (codes "nexthop")) is) j }

pub returns-clause-fits : goal.returns-clause-fits
returns-clause-fits c = (c.in_ok-destination.ensures.fits, c.in_ok-next.ensures.fits)
