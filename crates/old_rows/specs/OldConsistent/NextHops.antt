-- The next hop of an extra route lies in a subnet in which a port of the router holds an address.
use Rattle.std.specs.Prelude.{◌&&◌, Bool, List}
use Rattle.std.specs.List.{list_any, list_all}
use Rattle.api_types.specs.Lists.{Pass}
use Rattle.old_rows.specs.Prefixes4.{contains}
use Rattle.old_rows.specs.OldConsistent.Disjoint.{is_port_of, holds_in}
use Rattle.old_rows.specs.declared.subnet.OldSubnet.{OldSubnet}
use Rattle.old_rows.specs.declared.subnet.Hop4.{Hop4}
use Rattle.old_rows.specs.declared.port.OldPort.{OldPort}
use Rattle.old_rows.specs.declared.router.OldRouter.{OldRouter}

-- a port of the router holds an address in a subnet that contains the next hop
abbrev pub is_reached : List OldSubnet → List OldPort → OldRouter → Hop4 → Bool
is_reached subnets ports r hop =
    list_any
    (λ p. is_port_of r p && list_any (λ s. holds_in s.id p && contains s.prefix hop.next) subnets)
    ports

pub record RoutesLead (subnets : List OldSubnet) (ports : List OldPort) (routers : List OldRouter)
    : Type 0 where
  pub routes : Pass (λ r. list_all (is_reached subnets ports r) r.routes) routers
