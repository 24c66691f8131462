use Rattle.std.proofs.Common.{ap, codes}
use Rattle.std.proofs.lemmas.Result.{err_from_is_err_and}
use Rattle.serde_json.specs.Find.{get}
use Rattle.wire_text.proofs.group.GroupRowFromJson.from_json.Goals as goal

pub returns-in_err-description-clause-reads : goal.returns-in_err-description-clause-reads
returns-in_err-description-clause-reads c x fit is =
    let p = err_from_is_err_and c.from_residual.result c.from_residual.ensures.1 in
    rw (p.1, p.2) (c.in_err-description.ensures.reads x.description (fit.description) (ap (get (codes "description")) is))

pub returns-in_err-id-clause-reads : goal.returns-in_err-id-clause-reads
returns-in_err-id-clause-reads c x fit is =
    let p = err_from_is_err_and c.from_residual-in_err-id.result c.from_residual-in_err-id.ensures.1 in
    rw (p.1, p.2) (c.in_err-id.ensures.reads x.id (fit.id) (ap (get (codes "id")) is))

pub returns-in_err-is_default-clause-reads : goal.returns-in_err-is_default-clause-reads
returns-in_err-is_default-clause-reads c x fit is =
    let p = err_from_is_err_and c.from_residual-in_err-is_default.result c.from_residual-in_err-is_default.ensures.1 in
    rw (p.1, p.2) (c.in_err-is_default.ensures.reads x.is_default (tt) (ap (get (codes "is_default")) is))

pub returns-in_err-name-clause-reads : goal.returns-in_err-name-clause-reads
returns-in_err-name-clause-reads c x fit is =
    let p = err_from_is_err_and c.from_residual-in_err-name.result c.from_residual-in_err-name.ensures.1 in
    rw (p.1, p.2) (c.in_err-name.ensures.reads x.name (fit.name) (ap (get (codes "name")) is))

pub returns-in_err-project-clause-reads : goal.returns-in_err-project-clause-reads
returns-in_err-project-clause-reads c x fit is =
    let p = err_from_is_err_and c.from_residual-in_err-project.result c.from_residual-in_err-project.ensures.1 in
    rw (p.1, p.2) (c.in_err-project.ensures.reads x.project (fit.project) (ap (get (codes "project")) is))

pub returns-clause-reads : goal.returns-clause-reads
returns-clause-reads c x fit is = λ j. record { description = c.in_ok-description.ensures.reads x.description (fit.description) (ap (get (codes "description")) is) j; id = c.in_ok-id.ensures.reads x.id (fit.id) (ap (get (codes "id")) is) j; is_default = c.in_ok-is_default.ensures.reads x.is_default (tt) (ap (get (codes "is_default")) is) j; name = c.in_ok-name.ensures.reads x.name (fit.name) (ap (get (codes "name")) is) j; project = c.in_ok-project.ensures.reads x.project (fit.project) (ap (get (codes "project")) is) j }

pub returns-clause-fits : goal.returns-clause-fits
returns-clause-fits c = record { id = c.in_ok-id.ensures.fits; project = c.in_ok-project.ensures.fits; name = c.in_ok-name.ensures.fits; description = c.in_ok-description.ensures.fits }
