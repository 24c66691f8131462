-- Subnets that are reached together have no address in common.
use Rattle.std.specs.Prelude.{◌&&◌, not, Bool, List}
use Rattle.std.specs.List.{list_any}
use Rattle.net_addr.specs.Prefixes.{overlaps}
use Rattle.api_types.specs.Table.{ident_eq}
use Rattle.api_types.specs.Lists.{Pass}
use Rattle.api_types.specs.Owners.{is_port_of, holds_in}
use Rattle.api_types.specs.declared.subnet.SubnetRow.{SubnetRow}
use Rattle.api_types.specs.declared.port.PortRow.{PortRow}
use Rattle.api_types.specs.declared.router.RouterRow.{RouterRow}

-- two subnets of one network overlap
abbrev pub subnets_clash : SubnetRow → SubnetRow → Bool
subnets_clash s t =
    not (ident_eq s.id t.id) && (ident_eq s.network t.network && overlaps s.prefix t.prefix)

-- both ports are of one router
abbrev pub share_router : List RouterRow → PortRow → PortRow → Bool
share_router routers p q = list_any (λ r. is_port_of r p && is_port_of r q) routers

-- the ports hold addresses in subnets that overlap, as a subnet does with itself
abbrev pub reach_alike : List SubnetRow → PortRow → PortRow → Bool
reach_alike subnets p q =
    list_any (λ s.
    holds_in s.id p && list_any (λ t. holds_in t.id q && overlaps s.prefix t.prefix) subnets)
    subnets

abbrev pub ports_clash : List RouterRow → List SubnetRow → PortRow → PortRow → Bool
ports_clash routers subnets p q =
    not (ident_eq p.id q.id) && (share_router routers p q && reach_alike subnets p q)

pub record AreDisjoint (subnets : List SubnetRow) (ports : List PortRow) (routers : List RouterRow)
    : Type 0 where
  pub in_network : Pass (λ s. not (list_any (subnets_clash s) subnets)) subnets
  pub at_router : Pass (λ p. not (list_any (ports_clash routers subnets p) ports)) ports
