use Rattle.std.proofs.Common.{ap, codes}
use Rattle.std.proofs.lemmas.Result.{err_from_is_err_and}
use Rattle.serde_json.specs.Find.{get}
use Rattle.wire_text.proofs.floating.FloatingRowFromJson.from_json.Goals as goal

pub returns-in_err-address-clause-reads : goal.returns-in_err-address-clause-reads
returns-in_err-address-clause-reads c x fit is =
    let p = err_from_is_err_and c.from_residual.result c.from_residual.ensures.1 in
    rw (p.1, p.2) (c.in_err-address.ensures.reads x.address (fit.address) (ap (get (codes "address")) is))

pub returns-in_err-description-clause-reads : goal.returns-in_err-description-clause-reads
returns-in_err-description-clause-reads c x fit is =
    let p = err_from_is_err_and c.from_residual-in_err-description.result c.from_residual-in_err-description.ensures.1 in
    rw (p.1, p.2) (c.in_err-description.ensures.reads x.description (fit.description) (ap (get (codes "description")) is))

pub returns-in_err-id-clause-reads : goal.returns-in_err-id-clause-reads
returns-in_err-id-clause-reads c x fit is =
    let p = err_from_is_err_and c.from_residual-in_err-id.result c.from_residual-in_err-id.ensures.1 in
    rw (p.1, p.2) (c.in_err-id.ensures.reads x.id (fit.id) (ap (get (codes "id")) is))

pub returns-in_err-network-clause-reads : goal.returns-in_err-network-clause-reads
returns-in_err-network-clause-reads c x fit is =
    let p = err_from_is_err_and c.from_residual-in_err-network.result c.from_residual-in_err-network.ensures.1 in
    rw (p.1, p.2) (c.in_err-network.ensures.reads x.network (fit.network) (ap (get (codes "network")) is))

pub returns-in_err-own_port-clause-reads : goal.returns-in_err-own_port-clause-reads
returns-in_err-own_port-clause-reads c x fit is =
    let p = err_from_is_err_and c.from_residual-in_err-own_port.result c.from_residual-in_err-own_port.ensures.1 in
    rw (p.1, p.2) (c.in_err-own_port.ensures.reads x.own_port (fit.own_port) (ap (get (codes "own_port")) is))

pub returns-in_err-project-clause-reads : goal.returns-in_err-project-clause-reads
returns-in_err-project-clause-reads c x fit is =
    let p = err_from_is_err_and c.from_residual-in_err-project.result c.from_residual-in_err-project.ensures.1 in
    rw (p.1, p.2) (c.in_err-project.ensures.reads x.project (fit.project) (ap (get (codes "project")) is))

pub returns-in_err-target-clause-reads : goal.returns-in_err-target-clause-reads
returns-in_err-target-clause-reads c x fit is =
    let p = err_from_is_err_and c.from_residual-in_err-target.result c.from_residual-in_err-target.ensures.1 in
    rw (p.1, p.2) (c.in_err-target.ensures.reads x.target (fit.target) (ap (get (codes "target")) is))

pub returns-clause-reads : goal.returns-clause-reads
returns-clause-reads c x fit is = λ j. record { address = c.in_ok-address.ensures.reads x.address (fit.address) (ap (get (codes "address")) is) j; description = c.in_ok-description.ensures.reads x.description (fit.description) (ap (get (codes "description")) is) j; id = c.in_ok-id.ensures.reads x.id (fit.id) (ap (get (codes "id")) is) j; network = c.in_ok-network.ensures.reads x.network (fit.network) (ap (get (codes "network")) is) j; own_port = c.in_ok-own_port.ensures.reads x.own_port (fit.own_port) (ap (get (codes "own_port")) is) j; project = c.in_ok-project.ensures.reads x.project (fit.project) (ap (get (codes "project")) is) j; target = c.in_ok-target.ensures.reads x.target (fit.target) (ap (get (codes "target")) is) j }

pub returns-clause-fits : goal.returns-clause-fits
returns-clause-fits c = record { id = c.in_ok-id.ensures.fits; project = c.in_ok-project.ensures.fits; description = c.in_ok-description.ensures.fits; network = c.in_ok-network.ensures.fits; own_port = c.in_ok-own_port.ensures.fits; address = c.in_ok-address.ensures.fits; target = c.in_ok-target.ensures.fits }
