use Rattle.std.proofs.Common.{ap, codes}
use Rattle.std.proofs.lemmas.Result.{err_from_is_err_and}
use Rattle.serde_json.specs.Find.{get}
use Rattle.wire_text.proofs.group.RuleRowFromJson.from_json.Goals as goal

pub returns-in_err-description-clause-reads : goal.returns-in_err-description-clause-reads
returns-in_err-description-clause-reads c x fit is =
    let p = err_from_is_err_and c.from_residual.result c.from_residual.ensures.1 in
    rw (p.1, p.2) (c.in_err-description.ensures.reads x.description (fit.description) (ap (get (codes "description")) is))

pub returns-in_err-direction-clause-reads : goal.returns-in_err-direction-clause-reads
returns-in_err-direction-clause-reads c x fit is =
    let p = err_from_is_err_and c.from_residual-in_err-direction.result c.from_residual-in_err-direction.ensures.1 in
    rw (p.1, p.2) (c.in_err-direction.ensures.reads x.direction (tt) (ap (get (codes "direction")) is))

pub returns-in_err-ethertype-clause-reads : goal.returns-in_err-ethertype-clause-reads
returns-in_err-ethertype-clause-reads c x fit is =
    let p = err_from_is_err_and c.from_residual-in_err-ethertype.result c.from_residual-in_err-ethertype.ensures.1 in
    rw (p.1, p.2) (c.in_err-ethertype.ensures.reads x.ethertype (tt) (ap (get (codes "ethertype")) is))

pub returns-in_err-group-clause-reads : goal.returns-in_err-group-clause-reads
returns-in_err-group-clause-reads c x fit is =
    let p = err_from_is_err_and c.from_residual-in_err-group.result c.from_residual-in_err-group.ensures.1 in
    rw (p.1, p.2) (c.in_err-group.ensures.reads x.group (fit.group) (ap (get (codes "group")) is))

pub returns-in_err-high-clause-reads : goal.returns-in_err-high-clause-reads
returns-in_err-high-clause-reads c x fit is =
    let p = err_from_is_err_and c.from_residual-in_err-high.result c.from_residual-in_err-high.ensures.1 in
    rw (p.1, p.2) (c.in_err-high.ensures.reads x.high (fit.high) (ap (get (codes "high")) is))

pub returns-in_err-id-clause-reads : goal.returns-in_err-id-clause-reads
returns-in_err-id-clause-reads c x fit is =
    let p = err_from_is_err_and c.from_residual-in_err-id.result c.from_residual-in_err-id.ensures.1 in
    rw (p.1, p.2) (c.in_err-id.ensures.reads x.id (fit.id) (ap (get (codes "id")) is))

pub returns-in_err-low-clause-reads : goal.returns-in_err-low-clause-reads
returns-in_err-low-clause-reads c x fit is =
    let p = err_from_is_err_and c.from_residual-in_err-low.result c.from_residual-in_err-low.ensures.1 in
    rw (p.1, p.2) (c.in_err-low.ensures.reads x.low (fit.low) (ap (get (codes "low")) is))

pub returns-in_err-project-clause-reads : goal.returns-in_err-project-clause-reads
returns-in_err-project-clause-reads c x fit is =
    let p = err_from_is_err_and c.from_residual-in_err-project.result c.from_residual-in_err-project.ensures.1 in
    rw (p.1, p.2) (c.in_err-project.ensures.reads x.project (fit.project) (ap (get (codes "project")) is))

pub returns-in_err-protocol-clause-reads : goal.returns-in_err-protocol-clause-reads
returns-in_err-protocol-clause-reads c x fit is =
    let p = err_from_is_err_and c.from_residual-in_err-protocol.result c.from_residual-in_err-protocol.ensures.1 in
    rw (p.1, p.2) (c.in_err-protocol.ensures.reads x.protocol (fit.protocol) (ap (get (codes "protocol")) is))

pub returns-in_err-remote_group-clause-reads : goal.returns-in_err-remote_group-clause-reads
returns-in_err-remote_group-clause-reads c x fit is =
    let p = err_from_is_err_and c.from_residual-in_err-remote_group.result c.from_residual-in_err-remote_group.ensures.1 in
    rw (p.1, p.2) (c.in_err-remote_group.ensures.reads x.remote_group (fit.remote_group) (ap (get (codes "remote_group")) is))

pub returns-in_err-remote_prefix-clause-reads : goal.returns-in_err-remote_prefix-clause-reads
returns-in_err-remote_prefix-clause-reads c x fit is =
    let p = err_from_is_err_and c.from_residual-in_err-remote_prefix.result c.from_residual-in_err-remote_prefix.ensures.1 in
    rw (p.1, p.2) (c.in_err-remote_prefix.ensures.reads x.remote_prefix (fit.remote_prefix) (ap (get (codes "remote_prefix")) is))

pub returns-clause-reads : goal.returns-clause-reads
returns-clause-reads c x fit is = λ j. record { description = c.in_ok-description.ensures.reads x.description (fit.description) (ap (get (codes "description")) is) j; direction = c.in_ok-direction.ensures.reads x.direction (tt) (ap (get (codes "direction")) is) j; ethertype = c.in_ok-ethertype.ensures.reads x.ethertype (tt) (ap (get (codes "ethertype")) is) j; group = c.in_ok-group.ensures.reads x.group (fit.group) (ap (get (codes "group")) is) j; high = c.in_ok-high.ensures.reads x.high (fit.high) (ap (get (codes "high")) is) j; id = c.in_ok-id.ensures.reads x.id (fit.id) (ap (get (codes "id")) is) j; low = c.in_ok-low.ensures.reads x.low (fit.low) (ap (get (codes "low")) is) j; project = c.in_ok-project.ensures.reads x.project (fit.project) (ap (get (codes "project")) is) j; protocol = c.in_ok-protocol.ensures.reads x.protocol (fit.protocol) (ap (get (codes "protocol")) is) j; remote_group = c.in_ok-remote_group.ensures.reads x.remote_group (fit.remote_group) (ap (get (codes "remote_group")) is) j; remote_prefix = c.in_ok-remote_prefix.ensures.reads x.remote_prefix (fit.remote_prefix) (ap (get (codes "remote_prefix")) is) j }

pub returns-clause-fits : goal.returns-clause-fits
returns-clause-fits c = record { id = c.in_ok-id.ensures.fits; project = c.in_ok-project.ensures.fits; group = c.in_ok-group.ensures.fits; description = c.in_ok-description.ensures.fits; protocol = c.in_ok-protocol.ensures.fits; low = c.in_ok-low.ensures.fits; high = c.in_ok-high.ensures.fits; remote_prefix = c.in_ok-remote_prefix.ensures.fits; remote_group = c.in_ok-remote_group.ensures.fits }
