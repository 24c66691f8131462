use Rattle.std.proofs.Common.{ap, codes}
use Rattle.std.proofs.lemmas.Result.{err_from_is_err_and}
use Rattle.serde_json.specs.Find.{get}
use Rattle.wire_text.proofs.port.PortRowFromJson.from_json.Goals as goal

pub returns-in_err-by_admin-clause-reads : goal.returns-in_err-by_admin-clause-reads
returns-in_err-by_admin-clause-reads c x fit is =
    let p = err_from_is_err_and c.from_residual.result c.from_residual.ensures.1 in
    rw (p.1, p.2) (c.in_err-by_admin.ensures.reads x.by_admin (tt) (ap (get (codes "by_admin")) is))

pub returns-in_err-description-clause-reads : goal.returns-in_err-description-clause-reads
returns-in_err-description-clause-reads c x fit is =
    let p = err_from_is_err_and c.from_residual-in_err-description.result c.from_residual-in_err-description.ensures.1 in
    rw (p.1, p.2) (c.in_err-description.ensures.reads x.description (fit.description) (ap (get (codes "description")) is))

pub returns-in_err-device-clause-reads : goal.returns-in_err-device-clause-reads
returns-in_err-device-clause-reads c x fit is =
    let p = err_from_is_err_and c.from_residual-in_err-device.result c.from_residual-in_err-device.ensures.1 in
    rw (p.1, p.2) (c.in_err-device.ensures.reads x.device (fit.device) (ap (get (codes "device")) is))

pub returns-in_err-fixed-clause-reads : goal.returns-in_err-fixed-clause-reads
returns-in_err-fixed-clause-reads c x fit is =
    let p = err_from_is_err_and c.from_residual-in_err-fixed.result c.from_residual-in_err-fixed.ensures.1 in
    rw (p.1, p.2) (c.in_err-fixed.ensures.reads x.fixed (fit.fixed) (ap (get (codes "fixed")) is))

pub returns-in_err-groups-clause-reads : goal.returns-in_err-groups-clause-reads
returns-in_err-groups-clause-reads c x fit is =
    let p = err_from_is_err_and c.from_residual-in_err-groups.result c.from_residual-in_err-groups.ensures.1 in
    rw (p.1, p.2) (c.in_err-groups.ensures.reads x.groups (fit.groups) (ap (get (codes "groups")) is))

pub returns-in_err-host-clause-reads : goal.returns-in_err-host-clause-reads
returns-in_err-host-clause-reads c x fit is =
    let p = err_from_is_err_and c.from_residual-in_err-host.result c.from_residual-in_err-host.ensures.1 in
    rw (p.1, p.2) (c.in_err-host.ensures.reads x.host (fit.host) (ap (get (codes "host")) is))

pub returns-in_err-id-clause-reads : goal.returns-in_err-id-clause-reads
returns-in_err-id-clause-reads c x fit is =
    let p = err_from_is_err_and c.from_residual-in_err-id.result c.from_residual-in_err-id.ensures.1 in
    rw (p.1, p.2) (c.in_err-id.ensures.reads x.id (fit.id) (ap (get (codes "id")) is))

pub returns-in_err-mac-clause-reads : goal.returns-in_err-mac-clause-reads
returns-in_err-mac-clause-reads c x fit is =
    let p = err_from_is_err_and c.from_residual-in_err-mac.result c.from_residual-in_err-mac.ensures.1 in
    rw (p.1, p.2) (c.in_err-mac.ensures.reads x.mac (fit.mac) (ap (get (codes "mac")) is))

pub returns-in_err-name-clause-reads : goal.returns-in_err-name-clause-reads
returns-in_err-name-clause-reads c x fit is =
    let p = err_from_is_err_and c.from_residual-in_err-name.result c.from_residual-in_err-name.ensures.1 in
    rw (p.1, p.2) (c.in_err-name.ensures.reads x.name (fit.name) (ap (get (codes "name")) is))

pub returns-in_err-network-clause-reads : goal.returns-in_err-network-clause-reads
returns-in_err-network-clause-reads c x fit is =
    let p = err_from_is_err_and c.from_residual-in_err-network.result c.from_residual-in_err-network.ensures.1 in
    rw (p.1, p.2) (c.in_err-network.ensures.reads x.network (fit.network) (ap (get (codes "network")) is))

pub returns-in_err-owner-clause-reads : goal.returns-in_err-owner-clause-reads
returns-in_err-owner-clause-reads c x fit is =
    let p = err_from_is_err_and c.from_residual-in_err-owner.result c.from_residual-in_err-owner.ensures.1 in
    rw (p.1, p.2) (c.in_err-owner.ensures.reads x.owner (fit.owner) (ap (get (codes "owner")) is))

pub returns-in_err-pairs-clause-reads : goal.returns-in_err-pairs-clause-reads
returns-in_err-pairs-clause-reads c x fit is =
    let p = err_from_is_err_and c.from_residual-in_err-pairs.result c.from_residual-in_err-pairs.ensures.1 in
    rw (p.1, p.2) (c.in_err-pairs.ensures.reads x.pairs (fit.pairs) (ap (get (codes "pairs")) is))

pub returns-in_err-project-clause-reads : goal.returns-in_err-project-clause-reads
returns-in_err-project-clause-reads c x fit is =
    let p = err_from_is_err_and c.from_residual-in_err-project.result c.from_residual-in_err-project.ensures.1 in
    rw (p.1, p.2) (c.in_err-project.ensures.reads x.project (fit.project) (ap (get (codes "project")) is))

pub returns-in_err-secured-clause-reads : goal.returns-in_err-secured-clause-reads
returns-in_err-secured-clause-reads c x fit is =
    let p = err_from_is_err_and c.from_residual-in_err-secured.result c.from_residual-in_err-secured.ensures.1 in
    rw (p.1, p.2) (c.in_err-secured.ensures.reads x.secured (tt) (ap (get (codes "secured")) is))

pub returns-in_err-up-clause-reads : goal.returns-in_err-up-clause-reads
returns-in_err-up-clause-reads c x fit is =
    let p = err_from_is_err_and c.from_residual-in_err-up.result c.from_residual-in_err-up.ensures.1 in
    rw (p.1, p.2) (c.in_err-up.ensures.reads x.up (tt) (ap (get (codes "up")) is))

pub returns-in_err-vif-clause-reads : goal.returns-in_err-vif-clause-reads
returns-in_err-vif-clause-reads c x fit is =
    let p = err_from_is_err_and c.from_residual-in_err-vif.result c.from_residual-in_err-vif.ensures.1 in
    rw (p.1, p.2) (c.in_err-vif.ensures.reads x.vif (tt) (ap (get (codes "vif")) is))

pub returns-clause-reads : goal.returns-clause-reads
returns-clause-reads c x fit is = λ j. record { by_admin = c.in_ok-by_admin.ensures.reads x.by_admin (tt) (ap (get (codes "by_admin")) is) j; description = c.in_ok-description.ensures.reads x.description (fit.description) (ap (get (codes "description")) is) j; device = c.in_ok-device.ensures.reads x.device (fit.device) (ap (get (codes "device")) is) j; fixed = c.in_ok-fixed.ensures.reads x.fixed (fit.fixed) (ap (get (codes "fixed")) is) j; groups = c.in_ok-groups.ensures.reads x.groups (fit.groups) (ap (get (codes "groups")) is) j; host = c.in_ok-host.ensures.reads x.host (fit.host) (ap (get (codes "host")) is) j; id = c.in_ok-id.ensures.reads x.id (fit.id) (ap (get (codes "id")) is) j; mac = c.in_ok-mac.ensures.reads x.mac (fit.mac) (ap (get (codes "mac")) is) j; name = c.in_ok-name.ensures.reads x.name (fit.name) (ap (get (codes "name")) is) j; network = c.in_ok-network.ensures.reads x.network (fit.network) (ap (get (codes "network")) is) j; owner = c.in_ok-owner.ensures.reads x.owner (fit.owner) (ap (get (codes "owner")) is) j; pairs = c.in_ok-pairs.ensures.reads x.pairs (fit.pairs) (ap (get (codes "pairs")) is) j; project = c.in_ok-project.ensures.reads x.project (fit.project) (ap (get (codes "project")) is) j; secured = c.in_ok-secured.ensures.reads x.secured (tt) (ap (get (codes "secured")) is) j; up = c.in_ok-up.ensures.reads x.up (tt) (ap (get (codes "up")) is) j; vif = c.in_ok-vif.ensures.reads x.vif (tt) (ap (get (codes "vif")) is) j }

pub returns-clause-fits : goal.returns-clause-fits
returns-clause-fits c = record { id = c.in_ok-id.ensures.fits; project = c.in_ok-project.ensures.fits; network = c.in_ok-network.ensures.fits; name = c.in_ok-name.ensures.fits; description = c.in_ok-description.ensures.fits; mac = c.in_ok-mac.ensures.fits; fixed = c.in_ok-fixed.ensures.fits; pairs = c.in_ok-pairs.ensures.fits; groups = c.in_ok-groups.ensures.fits; device = c.in_ok-device.ensures.fits; owner = c.in_ok-owner.ensures.fits; host = c.in_ok-host.ensures.fits }
