-- A router's port that Open vSwitch carries is on its router's host.
use Rattle.std.specs.Prelude.{◌||◌, not, List}
use Rattle.std.specs.List.{list_all}
use Rattle.std.specs.Str.{bytes_eq}
use Rattle.api_types.specs.Lists.{Pass, is_some_so}
use Rattle.api_types.specs.Consistent.Carried.{is_bound}
use Rattle.old_rows.specs.OldConsistent.Disjoint.{is_port_of}
use Rattle.old_rows.specs.declared.port.OldPort.{OldPort}
use Rattle.old_rows.specs.declared.router.OldRouter.{OldRouter}

pub record AreOnHosts (ports : List OldPort) (routers : List OldRouter) : Type 0 where
  pub at_router : Pass (λ p.
      not (is_bound p.vif)
      || list_all (λ r. not (is_port_of r p) || is_some_so (bytes_eq p.host) r.host) routers) ports
