-- What is printed of a subnet (Networking API reference, Show subnet details).
use Rattle.std.specs.Prelude.{ℕ, List, [], ◌∷◌, codes, if◌then◌else◌}
use Rattle.net_addr.specs.Words.{Text}
use Rattle.net_addr.specs.Addresses.{is_v4}
use Rattle.net_addr.specs.declared.address.Addr.{Addr}
use Rattle.api_types.specs.Printed.{NamedTree, Tree, number, truth, word}
use Rattle.api_types.specs.declared.subnet.Ipv6Mode.{Ipv6Mode}
use Rattle.api_types.specs.declared.subnet.Ipv6Mode.TheVariants.{Slaac, Stateful, Stateless}
use Rattle.api_types.specs.declared.subnet.SubnetRow.{SubnetRow}
use Rattle.api_policy.specs.Trees.{address_word, id_word, list_of, null_or, prefix_word, route_object, span_object}

-- the version of an address, as it is written
abbrev pub version_number : Addr → ℕ
version_number x = if is_v4 x then 4 else 6

abbrev pub mode_text : Ipv6Mode → Text
mode_text Slaac = codes "slaac"
mode_text Stateful = codes "dhcpv6-stateful"
mode_text Stateless = codes "dhcpv6-stateless"

abbrev pub mode_word : Ipv6Mode → Tree
mode_word m = word (mode_text m)

-- in byte order of the names
abbrev pub subnet_members : SubnetRow → List NamedTree
subnet_members s =
    (codes "allocation_pools", list_of span_object s.pools)
    ∷ (codes "cidr", prefix_word s.prefix)
    ∷ (codes "description", word s.description)
    ∷ (codes "dns_nameservers", list_of address_word s.dns)
    ∷ (codes "enable_dhcp", truth s.dhcp)
    ∷ (codes "gateway_ip", null_or address_word s.gateway)
    ∷ (codes "host_routes", list_of route_object s.host_routes)
    ∷ (codes "id", id_word s.id)
    ∷ (codes "ip_version", number (version_number s.prefix.base))
    ∷ (codes "ipv6_address_mode", null_or mode_word s.address_mode)
    ∷ (codes "ipv6_ra_mode", null_or mode_word s.ra_mode)
    ∷ (codes "name", word s.name)
    ∷ (codes "network_id", id_word s.network)
    ∷ (codes "project_id", word s.project)
    ∷ (codes "tenant_id", word s.project)
    ∷ []
