-- Each row is in form: who owns it, which addresses and numbers it has, and how long its lists
-- are.
use Rattle.std.specs.Prelude.{ℕ, ◌&&◌, ◌||◌, ◌==◌, not, nat_le, Bool, true, false, List, [], ◌∷◌, is_none, length}
use Rattle.std.specs.List.{list_all}
use Rattle.std.specs.Str.{bytes_eq}
use Rattle.net_addr.specs.Words.{Text}
use Rattle.net_addr.specs.Addresses.{is_v4, same_version}
use Rattle.net_addr.specs.declared.address.Addr.{Addr}
use Rattle.net_addr.specs.declared.address.Addr.TheVariants.{V4, V6}
use Rattle.net_addr.specs.Macs.{is_unicast}
use Rattle.net_addr.specs.Prefixes.{Span, is_host_of}
use Rattle.net_addr.specs.Spans.{is_within, are_apart}
use Rattle.api_types.specs.Ident.{Ident}
use Rattle.api_types.specs.Lists.{Pass, stands_so, if_some, is_some_so}
use Rattle.api_types.specs.Owners.{is_dhcp}
use Rattle.api_types.specs.declared.network.NetworkRow.{NetworkRow}
use Rattle.api_types.specs.declared.network.Segment.{Segment}
use Rattle.api_types.specs.declared.network.Segment.TheVariants.{Local, Flat, Vlan, Vxlan}
use Rattle.api_types.specs.declared.subnet.Hop.{Hop}
use Rattle.api_types.specs.declared.subnet.Ipv6Mode.{Ipv6Mode}
use Rattle.api_types.specs.declared.subnet.Ipv6Mode.TheVariants.{Slaac, Stateful, Stateless}
use Rattle.api_types.specs.declared.subnet.SubnetRow.{SubnetRow}
use Rattle.api_types.specs.declared.port.PortRow.{PortRow}
use Rattle.api_types.specs.declared.group.GroupRow.{GroupRow}
use Rattle.api_types.specs.declared.group.RuleRow.{RuleRow}
use Rattle.api_types.specs.declared.router.RouterRow.{RouterRow}

-- a tag of IEEE 802.1Q is from 1 to 4,094, a VXLAN number (RFC 7348) from 1 to 16,777,215
abbrev pub is_segment : Segment → Bool
is_segment Local = true
is_segment (Flat _) = true
is_segment (Vlan _ tag) = nat_le 1 tag && nat_le tag 4094
is_segment (Vxlan number) = nat_le 1 number && nat_le number 16777215

-- whether the network is there and is this project's
abbrev pub is_network_of : List NetworkRow → Text → Ident → Bool
is_network_of networks project i =
    stands_so (λ n. n.id) i (λ n. bytes_eq n.project project) networks

-- whether the group is there and is this project's
abbrev pub is_group_of : List GroupRow → Text → Ident → Bool
is_group_of groups project i = stands_so (λ g. g.id) i (λ g. bytes_eq g.project project) groups

-- a pool is a span of host addresses without the gateway
abbrev pub is_pool : SubnetRow → Span → Bool
is_pool s pool =
    is_host_of s.prefix pool.first && is_host_of s.prefix pool.last
    && if_some (λ g. not (is_within pool g)) s.gateway

-- no address is in two of the spans
abbrev pub all_apart : List Span → Bool
all_apart [] = true
all_apart (pool ∷ pools) = list_all (are_apart pool) pools && all_apart pools

-- whether the ports of a subnet with this mode make their addresses of their MACs
abbrev pub makes_eui : Ipv6Mode → Bool
makes_eui Slaac = true
makes_eui Stateful = false
makes_eui Stateless = true

abbrev pub is_eui : SubnetRow → Bool
is_eui s = is_some_so makes_eui s.address_mode

abbrev pub mode_eq : Ipv6Mode → Ipv6Mode → Bool
mode_eq Slaac Slaac = true
mode_eq Stateful Stateful = true
mode_eq Stateless Stateless = true
mode_eq _ _ = false

-- no mode in version 4 and without DHCP, two modes are equal, and addresses are made of MACs in 64
-- bits
abbrev pub are_modes : SubnetRow → Bool
are_modes s =
    ((is_none s.address_mode && is_none s.ra_mode) || (not (is_v4 s.prefix.base) && s.dhcp))
    && if_some (λ a. if_some (mode_eq a) s.ra_mode) s.address_mode
    && (not (is_eui s) || (s.prefix.len == 64))

-- a route is of the version of an address
abbrev pub is_hop_like : Addr → Hop → Bool
is_hop_like x h = same_version x h.destination.base && same_version x h.next

-- name servers and host routes are of the subnet's version
abbrev pub are_versions : SubnetRow → Bool
are_versions s =
    list_all (same_version s.prefix.base) s.dns
    && list_all (is_hop_like s.prefix.base) s.host_routes

-- the greatest length of a subnet of a version
abbrev pub longest_of : Addr → ℕ
longest_of (V4 n) = 30
longest_of (V6 n) = 126

abbrev pub is_subnet_form : SubnetRow → Bool
is_subnet_form s =
    nat_le 1 s.prefix.len && nat_le s.prefix.len (longest_of s.prefix.base) && are_modes s
    && are_versions s && if_some (is_host_of s.prefix) s.gateway
    && list_all (is_pool s) s.pools && all_apart s.pools
    && nat_le (length s.pools) 20 && nat_le (length s.dns) 5 && nat_le (length s.host_routes) 20

-- a DHCP port may hold more than five addresses
abbrev pub is_port_form : PortRow → Bool
is_port_form p =
    is_unicast p.mac && list_all (λ pair. is_unicast pair.mac) p.pairs
    && (nat_le (length p.fixed) 5 || is_dhcp p.owner) && nat_le (length p.pairs) 10
    && nat_le (length p.groups) 20

pub record AreInForm (networks : List NetworkRow) (subnets : List SubnetRow) (ports : List PortRow)
    (groups : List GroupRow) (rules : List RuleRow) (routers : List RouterRow) : Type 0 where
  pub segments : Pass (λ n. is_segment n.segment) networks
  pub subnet_owners : Pass (λ s. is_network_of networks s.project s.network) subnets
  pub subnet_forms : Pass is_subnet_form subnets
  pub dhcp_owners : Pass (λ p. not (is_dhcp p.owner) || is_network_of networks p.project p.network)
      ports
  pub port_forms : Pass is_port_form ports
  pub rule_owners : Pass (λ r. is_group_of groups r.project r.group) rules
  pub routes : Pass (λ r. nat_le (length r.routes) 30) routers
