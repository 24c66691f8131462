use Rattle.std.proofs.Common.{ap, codes}
use Rattle.std.proofs.lemmas.Result.{err_from_is_err_and}
use Rattle.serde_json.specs.Find.{get}
use Rattle.wire_text.proofs.part.FixedFromJson.from_json.Goals as goal

pub returns-in_err-address-clause-reads : goal.returns-in_err-address-clause-reads
returns-in_err-address-clause-reads c x fit is =
    let p = err_from_is_err_and c.from_residual.result c.from_residual.ensures.1 in
    rw (p.1, p.2) (c.in_err-address.ensures.reads x.address (fit.1) (ap (get (codes "address")) is))

pub returns-in_err-subnet-clause-reads : goal.returns-in_err-subnet-clause-reads
returns-in_err-subnet-clause-reads c x fit is =
    let p = err_from_is_err_and c.from_residual-in_err-subnet.result c.from_residual-in_err-subnet.ensures.1 in
    rw (p.1, p.2) (c.in_err-subnet.ensures.reads x.subnet (fit.0) (ap (get (codes "subnet")) is))

pub returns-clause-reads : goal.returns-clause-reads
returns-clause-reads c x fit is = λ j. record { address = c.in_ok-address.ensures.reads x.address (fit.1) (ap (get (codes "address")) is) j; subnet = c.in_ok-subnet.ensures.reads x.subnet (fit.0) (ap (get (codes "subnet")) is) j }

pub returns-clause-fits : goal.returns-clause-fits
returns-clause-fits c = (c.in_ok-subnet.ensures.fits, c.in_ok-address.ensures.fits)
