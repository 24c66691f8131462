use Rattle.std.proofs.Common.{ap, codes}
use Rattle.std.proofs.lemmas.Result.{err_from_is_err_and}
use Rattle.serde_json.specs.Find.{get}
use Rattle.wire_text.proofs.part.PairFromJson.from_json.Goals as goal

pub returns-in_err-mac-clause-reads : goal.returns-in_err-mac-clause-reads
returns-in_err-mac-clause-reads c x fit is =
    let p = err_from_is_err_and c.from_residual.result c.from_residual.ensures.1 in
    rw (p.1, p.2) (c.in_err-mac.ensures.reads x.mac (fit.0) (ap (get (codes "mac")) is))

pub returns-in_err-prefix-clause-reads : goal.returns-in_err-prefix-clause-reads
returns-in_err-prefix-clause-reads c x fit is =
    let p = err_from_is_err_and c.from_residual-in_err-prefix.result c.from_residual-in_err-prefix.ensures.1 in
    rw (p.1, p.2) (c.in_err-prefix.ensures.reads x.prefix (fit.1) (ap (get (codes "prefix")) is))

pub returns-clause-reads : goal.returns-clause-reads
returns-clause-reads c x fit is = λ j. record { mac = c.in_ok-mac.ensures.reads x.mac (fit.0) (ap (get (codes "mac")) is) j; prefix = c.in_ok-prefix.ensures.reads x.prefix (fit.1) (ap (get (codes "prefix")) is) j }

pub returns-clause-fits : goal.returns-clause-fits
returns-clause-fits c = (c.in_ok-mac.ensures.fits, c.in_ok-prefix.ensures.fits)
