-- Subnets that are reached together have no address in common.
use Rattle.std.specs.Prelude.{◌&&◌, not, Bool, List}
use Rattle.std.specs.List.{list_any}
use Rattle.api_types.specs.Ident.{Ident}
use Rattle.api_types.specs.Table.{ident_eq}
use Rattle.api_types.specs.Lists.{Pass}
use Rattle.api_types.specs.Owners.{is_router_port, device_is}
use Rattle.old_rows.specs.Prefixes4.{overlaps}
use Rattle.old_rows.specs.declared.subnet.OldSubnet.{OldSubnet}
use Rattle.old_rows.specs.declared.port.OldPort.{OldPort}
use Rattle.old_rows.specs.declared.port.Fixed4.{Fixed4}
use Rattle.old_rows.specs.declared.router.OldRouter.{OldRouter}

-- whether a port is a router's, and this router's
abbrev pub is_port_of : OldRouter → OldPort → Bool
is_port_of r p = is_router_port p.owner && device_is p.device r.id

-- whether a port holds an address in a subnet
abbrev pub holds_in : Ident → OldPort → Bool
holds_in subnet p = list_any (λ (f : Fixed4). ident_eq subnet f.subnet) p.fixed

-- two subnets of one network overlap
abbrev pub subnets_clash : OldSubnet → OldSubnet → Bool
subnets_clash s t =
    not (ident_eq s.id t.id) && (ident_eq s.network t.network && overlaps s.prefix t.prefix)

-- both ports are of one router
abbrev pub share_router : List OldRouter → OldPort → OldPort → Bool
share_router routers p q = list_any (λ r. is_port_of r p && is_port_of r q) routers

-- the ports hold addresses in subnets that overlap, as a subnet does with itself
abbrev pub reach_alike : List OldSubnet → OldPort → OldPort → Bool
reach_alike subnets p q =
    list_any
    (λ s. holds_in s.id p && list_any (λ t. holds_in t.id q && overlaps s.prefix t.prefix) subnets)
    subnets

abbrev pub ports_clash : List OldRouter → List OldSubnet → OldPort → OldPort → Bool
ports_clash routers subnets p q =
    not (ident_eq p.id q.id) && (share_router routers p q && reach_alike subnets p q)

pub record AreDisjoint (subnets : List OldSubnet) (ports : List OldPort) (routers : List OldRouter)
    : Type 0 where
  pub in_network : Pass (λ s. not (list_any (subnets_clash s) subnets)) subnets
  pub at_router : Pass (λ p. not (list_any (ports_clash routers subnets p) ports)) ports
