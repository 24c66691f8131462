use Rattle.std.proofs.Common.{ap, codes}
use Rattle.std.proofs.lemmas.Result.{err_from_is_err_and}
use Rattle.serde_json.specs.Find.{get}
use Rattle.wire_text.proofs.policy.PolicyRowFromJson.from_json.Goals as goal

pub returns-in_err-action-clause-reads : goal.returns-in_err-action-clause-reads
returns-in_err-action-clause-reads c x fit is =
    let p = err_from_is_err_and c.from_residual.result c.from_residual.ensures.1 in
    rw (p.1, p.2) (c.in_err-action.ensures.reads x.action (tt) (ap (get (codes "action")) is))

pub returns-in_err-id-clause-reads : goal.returns-in_err-id-clause-reads
returns-in_err-id-clause-reads c x fit is =
    let p = err_from_is_err_and c.from_residual-in_err-id.result c.from_residual-in_err-id.ensures.1 in
    rw (p.1, p.2) (c.in_err-id.ensures.reads x.id (fit.id) (ap (get (codes "id")) is))

pub returns-in_err-object-clause-reads : goal.returns-in_err-object-clause-reads
returns-in_err-object-clause-reads c x fit is =
    let p = err_from_is_err_and c.from_residual-in_err-object.result c.from_residual-in_err-object.ensures.1 in
    rw (p.1, p.2) (c.in_err-object.ensures.reads x.object (fit.object) (ap (get (codes "object")) is))

pub returns-in_err-project-clause-reads : goal.returns-in_err-project-clause-reads
returns-in_err-project-clause-reads c x fit is =
    let p = err_from_is_err_and c.from_residual-in_err-project.result c.from_residual-in_err-project.ensures.1 in
    rw (p.1, p.2) (c.in_err-project.ensures.reads x.project (fit.project) (ap (get (codes "project")) is))

pub returns-in_err-target-clause-reads : goal.returns-in_err-target-clause-reads
returns-in_err-target-clause-reads c x fit is =
    let p = err_from_is_err_and c.from_residual-in_err-target.result c.from_residual-in_err-target.ensures.1 in
    rw (p.1, p.2) (c.in_err-target.ensures.reads x.target (fit.target) (ap (get (codes "target")) is))

pub returns-clause-reads : goal.returns-clause-reads
returns-clause-reads c x fit is = λ j. record { action = c.in_ok-action.ensures.reads x.action (tt) (ap (get (codes "action")) is) j; id = c.in_ok-id.ensures.reads x.id (fit.id) (ap (get (codes "id")) is) j; object = c.in_ok-object.ensures.reads x.object (fit.object) (ap (get (codes "object")) is) j; project = c.in_ok-project.ensures.reads x.project (fit.project) (ap (get (codes "project")) is) j; target = c.in_ok-target.ensures.reads x.target (fit.target) (ap (get (codes "target")) is) j }

pub returns-clause-fits : goal.returns-clause-fits
returns-clause-fits c = record { id = c.in_ok-id.ensures.fits; project = c.in_ok-project.ensures.fits; object = c.in_ok-object.ensures.fits; target = c.in_ok-target.ensures.fits }
