use Rattle.std.proofs.Common.{Option, None, Some, ap, codes}
use Rattle.std.specs.Prelude.{IfSome, ⊤}
use Rattle.std.proofs.lemmas.Result.{err_from_is_err_and}
use Rattle.serde_json.specs.Find.{get}
use Rattle.api_types.specs.declared.subnet.Ipv6Mode.{Ipv6Mode}
use Rattle.wire_text.proofs.subnet.SubnetRowFromJson.from_json.Goals as goal

any_mode : (o : Option Ipv6Mode) → IfSome o (λ m. ⊤)
any_mode None = tt
any_mode (Some m) = tt

pub returns-in_err-address_mode-clause-reads : goal.returns-in_err-address_mode-clause-reads
returns-in_err-address_mode-clause-reads c x fit is =
    let p = err_from_is_err_and c.from_residual.result c.from_residual.ensures.1 in
    rw (p.1, p.2) (c.in_err-address_mode.ensures.reads x.address_mode (any_mode x.address_mode) (ap (get (codes "address_mode")) is))

pub returns-in_err-description-clause-reads : goal.returns-in_err-description-clause-reads
returns-in_err-description-clause-reads c x fit is =
    let p = err_from_is_err_and c.from_residual-in_err-description.result c.from_residual-in_err-description.ensures.1 in
    rw (p.1, p.2) (c.in_err-description.ensures.reads x.description (fit.description) (ap (get (codes "description")) is))

pub returns-in_err-dhcp-clause-reads : goal.returns-in_err-dhcp-clause-reads
returns-in_err-dhcp-clause-reads c x fit is =
    let p = err_from_is_err_and c.from_residual-in_err-dhcp.result c.from_residual-in_err-dhcp.ensures.1 in
    rw (p.1, p.2) (c.in_err-dhcp.ensures.reads x.dhcp (tt) (ap (get (codes "dhcp")) is))

pub returns-in_err-dns-clause-reads : goal.returns-in_err-dns-clause-reads
returns-in_err-dns-clause-reads c x fit is =
    let p = err_from_is_err_and c.from_residual-in_err-dns.result c.from_residual-in_err-dns.ensures.1 in
    rw (p.1, p.2) (c.in_err-dns.ensures.reads x.dns (fit.dns) (ap (get (codes "dns")) is))

pub returns-in_err-gateway-clause-reads : goal.returns-in_err-gateway-clause-reads
returns-in_err-gateway-clause-reads c x fit is =
    let p = err_from_is_err_and c.from_residual-in_err-gateway.result c.from_residual-in_err-gateway.ensures.1 in
    rw (p.1, p.2) (c.in_err-gateway.ensures.reads x.gateway (fit.gateway) (ap (get (codes "gateway")) is))

pub returns-in_err-host_routes-clause-reads : goal.returns-in_err-host_routes-clause-reads
returns-in_err-host_routes-clause-reads c x fit is =
    let p = err_from_is_err_and c.from_residual-in_err-host_routes.result c.from_residual-in_err-host_routes.ensures.1 in
    rw (p.1, p.2) (c.in_err-host_routes.ensures.reads x.host_routes (fit.host_routes) (ap (get (codes "host_routes")) is))

pub returns-in_err-id-clause-reads : goal.returns-in_err-id-clause-reads
returns-in_err-id-clause-reads c x fit is =
    let p = err_from_is_err_and c.from_residual-in_err-id.result c.from_residual-in_err-id.ensures.1 in
    rw (p.1, p.2) (c.in_err-id.ensures.reads x.id (fit.id) (ap (get (codes "id")) is))

pub returns-in_err-name-clause-reads : goal.returns-in_err-name-clause-reads
returns-in_err-name-clause-reads c x fit is =
    let p = err_from_is_err_and c.from_residual-in_err-name.result c.from_residual-in_err-name.ensures.1 in
    rw (p.1, p.2) (c.in_err-name.ensures.reads x.name (fit.name) (ap (get (codes "name")) is))

pub returns-in_err-network-clause-reads : goal.returns-in_err-network-clause-reads
returns-in_err-network-clause-reads c x fit is =
    let p = err_from_is_err_and c.from_residual-in_err-network.result c.from_residual-in_err-network.ensures.1 in
    rw (p.1, p.2) (c.in_err-network.ensures.reads x.network (fit.network) (ap (get (codes "network")) is))

pub returns-in_err-pools-clause-reads : goal.returns-in_err-pools-clause-reads
returns-in_err-pools-clause-reads c x fit is =
    let p = err_from_is_err_and c.from_residual-in_err-pools.result c.from_residual-in_err-pools.ensures.1 in
    rw (p.1, p.2) (c.in_err-pools.ensures.reads x.pools (fit.pools) (ap (get (codes "pools")) is))

pub returns-in_err-prefix-clause-reads : goal.returns-in_err-prefix-clause-reads
returns-in_err-prefix-clause-reads c x fit is =
    let p = err_from_is_err_and c.from_residual-in_err-prefix.result c.from_residual-in_err-prefix.ensures.1 in
    rw (p.1, p.2) (c.in_err-prefix.ensures.reads x.prefix (fit.prefix) (ap (get (codes "prefix")) is))

pub returns-in_err-project-clause-reads : goal.returns-in_err-project-clause-reads
returns-in_err-project-clause-reads c x fit is =
    let p = err_from_is_err_and c.from_residual-in_err-project.result c.from_residual-in_err-project.ensures.1 in
    rw (p.1, p.2) (c.in_err-project.ensures.reads x.project (fit.project) (ap (get (codes "project")) is))

pub returns-in_err-ra_mode-clause-reads : goal.returns-in_err-ra_mode-clause-reads
returns-in_err-ra_mode-clause-reads c x fit is =
    let p = err_from_is_err_and c.from_residual-in_err-ra_mode.result c.from_residual-in_err-ra_mode.ensures.1 in
    rw (p.1, p.2) (c.in_err-ra_mode.ensures.reads x.ra_mode (any_mode x.ra_mode) (ap (get (codes "ra_mode")) is))

pub returns-clause-reads : goal.returns-clause-reads
returns-clause-reads c x fit is = λ j. record { address_mode = c.in_ok-address_mode.ensures.reads x.address_mode (any_mode x.address_mode) (ap (get (codes "address_mode")) is) j; description = c.in_ok-description.ensures.reads x.description (fit.description) (ap (get (codes "description")) is) j; dhcp = c.in_ok-dhcp.ensures.reads x.dhcp (tt) (ap (get (codes "dhcp")) is) j; dns = c.in_ok-dns.ensures.reads x.dns (fit.dns) (ap (get (codes "dns")) is) j; gateway = c.in_ok-gateway.ensures.reads x.gateway (fit.gateway) (ap (get (codes "gateway")) is) j; host_routes = c.in_ok-host_routes.ensures.reads x.host_routes (fit.host_routes) (ap (get (codes "host_routes")) is) j; id = c.in_ok-id.ensures.reads x.id (fit.id) (ap (get (codes "id")) is) j; name = c.in_ok-name.ensures.reads x.name (fit.name) (ap (get (codes "name")) is) j; network = c.in_ok-network.ensures.reads x.network (fit.network) (ap (get (codes "network")) is) j; pools = c.in_ok-pools.ensures.reads x.pools (fit.pools) (ap (get (codes "pools")) is) j; prefix = c.in_ok-prefix.ensures.reads x.prefix (fit.prefix) (ap (get (codes "prefix")) is) j; project = c.in_ok-project.ensures.reads x.project (fit.project) (ap (get (codes "project")) is) j; ra_mode = c.in_ok-ra_mode.ensures.reads x.ra_mode (any_mode x.ra_mode) (ap (get (codes "ra_mode")) is) j }

pub returns-clause-fits : goal.returns-clause-fits
returns-clause-fits c = record { id = c.in_ok-id.ensures.fits; project = c.in_ok-project.ensures.fits; network = c.in_ok-network.ensures.fits; name = c.in_ok-name.ensures.fits; description = c.in_ok-description.ensures.fits; prefix = c.in_ok-prefix.ensures.fits; gateway = c.in_ok-gateway.ensures.fits; pools = c.in_ok-pools.ensures.fits; dns = c.in_ok-dns.ensures.fits; host_routes = c.in_ok-host_routes.ensures.fits }
