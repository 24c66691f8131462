use Rattle.std.proofs.Common.{ap, codes}
use Rattle.std.proofs.lemmas.Result.{err_from_is_err_and}
use Rattle.serde_json.specs.Find.{get}
use Rattle.wire_text.proofs.project.ProjectRowFromJson.from_json.Goals as goal

pub returns-in_err-count-clause-reads : goal.returns-in_err-count-clause-reads
returns-in_err-count-clause-reads c x fit is =
    let p = err_from_is_err_and c.from_residual.result c.from_residual.ensures.1 in
    rw (p.1, p.2) (c.in_err-count.ensures.reads x.count (fit.count) (ap (get (codes "count")) is))

pub returns-in_err-name-clause-reads : goal.returns-in_err-name-clause-reads
returns-in_err-name-clause-reads c x fit is =
    let p = err_from_is_err_and c.from_residual-in_err-name.result c.from_residual-in_err-name.ensures.1 in
    rw (p.1, p.2) (c.in_err-name.ensures.reads x.name (fit.name) (ap (get (codes "name")) is))

pub returns-in_err-ordinal-clause-reads : goal.returns-in_err-ordinal-clause-reads
returns-in_err-ordinal-clause-reads c x fit is =
    let p = err_from_is_err_and c.from_residual-in_err-ordinal.result c.from_residual-in_err-ordinal.ensures.1 in
    rw (p.1, p.2) (c.in_err-ordinal.ensures.reads x.ordinal (fit.ordinal) (ap (get (codes "ordinal")) is))

pub returns-clause-reads : goal.returns-clause-reads
returns-clause-reads c x fit is = λ j. record { count = c.in_ok-count.ensures.reads x.count (fit.count) (ap (get (codes "count")) is) j; name = c.in_ok-name.ensures.reads x.name (fit.name) (ap (get (codes "name")) is) j; ordinal = c.in_ok-ordinal.ensures.reads x.ordinal (fit.ordinal) (ap (get (codes "ordinal")) is) j }

pub returns-clause-fits : goal.returns-clause-fits
returns-clause-fits c = record { name = c.in_ok-name.ensures.fits; ordinal = c.in_ok-ordinal.ensures.fits; count = c.in_ok-count.ensures.fits }
