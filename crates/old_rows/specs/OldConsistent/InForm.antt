-- Each row is in form: who owns it, which addresses and numbers it has, and how long its lists
-- are.
use Rattle.std.specs.Prelude.{◌&&◌, ◌||◌, not, nat_le, Bool, true, List, [], ◌∷◌, length}
use Rattle.std.specs.List.{list_all}
use Rattle.net_addr.specs.Macs.{is_unicast}
use Rattle.api_types.specs.Lists.{Pass, if_some}
use Rattle.api_types.specs.Owners.{is_dhcp}
use Rattle.api_types.specs.Consistent.InForm.{is_segment, is_network_of, is_group_of}
use Rattle.old_rows.specs.Prefixes4.{Span, is_host_of, is_within, are_apart}
use Rattle.old_rows.specs.OldLists.{OldLists}
use Rattle.old_rows.specs.declared.subnet.OldSubnet.{OldSubnet}
use Rattle.old_rows.specs.declared.port.OldPort.{OldPort}

-- a pool is a span of host addresses without the gateway
abbrev pub is_pool : OldSubnet → Span → Bool
is_pool s pool =
    is_host_of s.prefix pool.first && is_host_of s.prefix pool.last
    && if_some (λ g. not (is_within pool g)) s.gateway

-- no address is in two of the spans
abbrev pub all_apart : List Span → Bool
all_apart [] = true
all_apart (pool ∷ pools) = list_all (are_apart pool) pools && all_apart pools

abbrev pub is_subnet_form : OldSubnet → Bool
is_subnet_form s =
    nat_le 1 s.prefix.len && nat_le s.prefix.len 30 && if_some (is_host_of s.prefix) s.gateway
    && list_all (is_pool s) s.pools && all_apart s.pools
    && nat_le (length s.pools) 20 && nat_le (length s.dns) 5 && nat_le (length s.host_routes) 20

-- a DHCP port may hold more than five addresses
abbrev pub is_port_form : OldPort → Bool
is_port_form p =
    is_unicast p.mac && list_all (λ pair. is_unicast pair.mac) p.pairs
    && (nat_le (length p.fixed) 5 || is_dhcp p.owner) && nat_le (length p.pairs) 10
    && nat_le (length p.groups) 20

pub record AreInForm (old : OldLists) : Type 0 where
  pub segments : Pass (λ n. is_segment n.segment) old.networks
  pub subnet_owners : Pass (λ s. is_network_of old.networks s.project s.network) old.subnets
  pub subnet_forms : Pass is_subnet_form old.subnets
  pub dhcp_owners : Pass
      (λ p. not (is_dhcp p.owner) || is_network_of old.networks p.project p.network) old.ports
  pub port_forms : Pass is_port_form old.ports
  pub rule_owners : Pass (λ r. is_group_of old.groups r.project r.group) old.rules
  pub routes : Pass (λ r. nat_le (length r.routes) 30) old.routers
