-- A port that Open vSwitch carries is on a host that can carry it, and a router's on its router's
-- host.
use Rattle.std.specs.Prelude.{◌||◌, not, Bool, true, false, List}
use Rattle.std.specs.List.{list_all}
use Rattle.std.specs.Str.{bytes_eq}
use Rattle.net_addr.specs.Words.{Text}
use Rattle.api_types.specs.Lists.{Pass, stands_so, is_some_so}
use Rattle.api_types.specs.Owners.{is_port_of}
use Rattle.api_types.specs.declared.network.NetworkRow.{NetworkRow}
use Rattle.api_types.specs.declared.network.Segment.{Segment}
use Rattle.api_types.specs.declared.port.PortRow.{PortRow}
use Rattle.api_types.specs.declared.port.Vif.{Vif}
use Rattle.api_types.specs.declared.port.Vif.TheVariants.{Unbound, Ovs}
use Rattle.api_types.specs.declared.router.RouterRow.{RouterRow}

abbrev pub is_bound : Vif → Bool
is_bound Ovs = true
is_bound _ = false

abbrev pub is_unbound : Vif → Bool
is_unbound Unbound = true
is_unbound _ = false

-- the part that speaks of no settings
pub record AreOnHosts (ports : List PortRow) (routers : List RouterRow) : Type 0 where
  pub at_router : Pass (λ p.
      not (is_bound p.vif)
      || list_all (λ r. not (is_port_of r p) || is_some_so (bytes_eq p.host) r.host) routers) ports

-- the part that speaks of settings, by which segments a host, named so, can carry
pub record AreCarried (carries : Text → Segment → Bool) (networks : List NetworkRow)
    (ports : List PortRow) : Type 0 where
  pub at_host : Pass (λ p.
      not (is_bound p.vif)
      || stands_so (λ n. n.id) p.network (λ n. carries p.host n.segment) networks) ports
