-- The rules of a subnet's attributes that speak of rows, in the order in which they are tried.
-- Each is looked at where the rows of which it speaks are there and seen, and names its attribute.
use Rattle.api_ipam.specs.Addresses.{are_pools}
use Rattle.api_types.specs.HeldAddresses.{subnets_on}
use Rattle.api_types.specs.Given.{value_of, value_or}
use Rattle.api_types.specs.Refusing.{first_refusal, when}
use Rattle.api_types.specs.Consistent.InForm.{is_hop_like, makes_eui, mode_eq}
use Rattle.api_types.specs.Lists.{if_some, is_some_so}
use Rattle.api_types.specs.RowLists.{RowLists}
use Rattle.api_types.specs.declared.form.IpVersion.TheVariants.{V4, V6}
use Rattle.api_types.specs.declared.form.IpVersion.{IpVersion}
use Rattle.api_types.specs.declared.form.SubnetForm.{SubnetForm}
use Rattle.api_types.specs.declared.network.NetworkRow.{NetworkRow}
use Rattle.api_types.specs.declared.refusal.Refusal.TheVariants.{Invalid}
use Rattle.api_types.specs.declared.refusal.Refusal.{Refusal}
use Rattle.api_types.specs.declared.subnet.Ipv6Mode.{Ipv6Mode}
use Rattle.api_types.specs.declared.subnet.SubnetRow.{SubnetRow}
use Rattle.net_addr.specs.Addresses.{same_version}
use Rattle.net_addr.specs.Prefixes.{Prefix, Span, is_host_of, overlaps}
use Rattle.net_addr.specs.declared.address.Addr.TheVariants.{V4 as Four, V6 as Six}
use Rattle.net_addr.specs.declared.address.Addr.{Addr}
use Rattle.std.specs.List.{list_all, list_any}
use Rattle.std.specs.Prelude.{Bool, List, Option, [], codes, false, is_some, not, true, ◌&&◌, ◌==◌, ◌||◌, ◌∷◌}

-- a version of IP, and an address of it
abbrev pub of_version : IpVersion → Addr
of_version V4 = Four 0
of_version V6 = Six 0

abbrev pub is_version : IpVersion → IpVersion → Bool
is_version V4 V4 = true
is_version V6 V6 = true
is_version _ _ = false

-- `cidr` overlaps no other subnet of the network
abbrev pub overlaps_subnet : List SubnetRow → Prefix → NetworkRow → Bool
overlaps_subnet subnets prefix n =
    list_any (λ (s : SubnetRow). overlaps prefix s.prefix) (subnets_on subnets n.id)

abbrev pub bad_cidr : RowLists → Prefix → NetworkRow → Option Refusal
bad_cidr rows prefix n = when (overlaps_subnet rows.subnets prefix n) (Invalid (codes "cidr"))

-- the rules of `gateway_ip` and `allocation_pools`, on a subnet as it would stand
abbrev pub bad_subnet : Prefix → Option Addr → List Span → Option Refusal
bad_subnet prefix gateway pools = first_refusal (
    when (not (if_some (is_host_of prefix) gateway)) (Invalid (codes "gateway_ip"))
    ∷ when (not (are_pools prefix gateway pools)) (Invalid (codes "allocation_pools"))
    ∷ [])

-- the parts that have to be of the subnet's version, which is that of an address
abbrev pub bad_versions : Addr → SubnetForm → Option Refusal
bad_versions x form = first_refusal (
    when (not (list_all (same_version x) (value_or [] form.dns_nameservers)))
    (Invalid (codes "dns_nameservers"))
    ∷ when (not (list_all (is_hop_like x) (value_or [] form.host_routes)))
    (Invalid (codes "host_routes"))
    ∷ [])

-- the modes: none in version 4 and without DHCP, two are equal, and addresses are made of MAC
-- addresses in 64 bits
abbrev pub may_have_mode : SubnetForm → Bool
may_have_mode form = is_version V6 (value_or V4 form.ip_version) && value_or true form.enable_dhcp

abbrev pub is_bad_mode : SubnetForm → Ipv6Mode → Bool
is_bad_mode form m =
    not (may_have_mode form) || not (if_some (mode_eq m) (value_of form.ipv6_ra_mode))
    || (makes_eui m && is_some_so (λ (p : Prefix). not (p.len == 64)) (value_of form.cidr))

abbrev pub bad_modes : SubnetForm → Option Refusal
bad_modes form = first_refusal (
    when (is_some_so (is_bad_mode form) (value_of form.ipv6_address_mode))
    (Invalid (codes "ipv6_address_mode"))
    ∷ when (is_some (value_of form.ipv6_ra_mode) && not (may_have_mode form))
    (Invalid (codes "ipv6_ra_mode"))
    ∷ [])

-- a body's rules on its own attributes, in byte order of them
abbrev pub bad_parts : SubnetForm → Option Refusal
bad_parts form = first_refusal (
    when
    (is_some_so
    (λ (p : Prefix). not (same_version (of_version (value_or V4 form.ip_version)) p.base))
    (value_of form.cidr)) (Invalid (codes "cidr"))
    ∷ bad_versions (of_version (value_or V4 form.ip_version)) form
    ∷ bad_modes form
    ∷ [])

-- `enable_dhcp`: a subnet with a mode keeps it
abbrev pub bad_dhcp : SubnetForm → SubnetRow → Option Refusal
bad_dhcp form s =
    when (not (value_or true form.enable_dhcp) && (is_some s.address_mode || is_some s.ra_mode))
    (Invalid (codes "enable_dhcp"))
