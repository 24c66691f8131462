-- The grammar of each attribute (OpenStack API reference, Networking API v2.0): what its value
-- says by itself. None is said by a value that isn't allowed.
use Rattle.std.specs.Prelude.{ℕ, ◌^◌, ◌-◌, ◌==◌, ◌&&◌, ◌||◌, not, Bool, false, nat_le, nat_eq, List, [], ◌∷◌, length, if◌then◌else◌, Option, Some, None, option_and_then, codes}
use Rattle.std.specs.Char.{is_ascii_alphanumeric}
use Rattle.std.specs.List.{list_all, starts_with}
use Rattle.std.specs.Str.{bytes_eq, chars, str_to_ascii_lowercase}
use Rattle.net_addr.specs.Words.{Text, Version}
use Rattle.serde_json.specs.Data.{Data, Members}
use Rattle.serde_json.specs.Events.{members_len}
use Rattle.serde_json.specs.Find.{as_str, as_object}
use Rattle.net_addr.specs.Prefixes.{Prefix, Span}
use Rattle.net_addr.specs.Spans.{are_apart}
use Rattle.net_addr.specs.declared.address.Addr.{Addr}
use Rattle.api_types.specs.Consistent.InForm.{longest_of}
use Rattle.api_types.specs.Ident.{Ident}
use Rattle.api_types.specs.declared.form.FixedAsked.{FixedAsked}
use Rattle.api_types.specs.declared.form.IpVersion.{IpVersion}
use Rattle.api_types.specs.declared.form.IpVersion.TheVariants.{V4, V6}
use Rattle.api_types.specs.declared.form.NetworkType.{NetworkType}
use Rattle.api_types.specs.declared.form.NetworkType.TheVariants.{Local, Flat, Vlan, Vxlan}
use Rattle.api_types.specs.declared.form.ObjectType.{ObjectType}
use Rattle.api_types.specs.declared.form.ObjectType.TheVariants.{Network}
use Rattle.api_types.specs.declared.form.PairAsked.{PairAsked}
use Rattle.api_types.specs.declared.form.VnicType.{VnicType}
use Rattle.api_types.specs.declared.form.VnicType.TheVariants.{Normal}
use Rattle.api_types.specs.declared.group.Direction.{Direction}
use Rattle.api_types.specs.declared.group.Direction.TheVariants.{Ingress, Egress}
use Rattle.api_types.specs.declared.group.Ethertype.{Ethertype}
use Rattle.api_types.specs.declared.group.Ethertype.TheVariants.{Ipv4, Ipv6}
use Rattle.api_types.specs.declared.policy.Action.{Action}
use Rattle.api_types.specs.declared.policy.Action.TheVariants.{Shared, External}
use Rattle.api_types.specs.declared.subnet.Hop.{Hop}
use Rattle.api_types.specs.declared.subnet.Ipv6Mode.{Ipv6Mode}
use Rattle.api_types.specs.declared.subnet.Ipv6Mode.TheVariants.{Slaac, Stateful, Stateless}
use Rattle.json_values.specs.Numbers.{number_in}
use Rattle.json_values.specs.Six.{or_else}
use Rattle.json_values.specs.Values.{kept, whole_of, said_by, word_in, word_of, list_of, pairwise}
use Rattle.json_values.specs.Items.{id_of, address_of, exact_of, span_of, hop_of, fixed_of, pair_of, other_id, other_hop}

-- at most 255 characters
abbrev pub is_short : Text → Bool
is_short text = nat_le (length (chars text)) 255

abbrev pub short_text : Data → Option Text
short_text d = kept is_short (as_str d)

-- `default` names the group that each project has
abbrev pub is_free_name : Text → Bool
is_free_name text = not (bytes_eq text (codes "default"))

abbrev pub group_name : Data → Option Text
group_name d = kept is_free_name (short_text d)

-- owners that begin with `network:` are the server's
abbrev pub is_free_owner : Text → Bool
is_free_owner text = not (starts_with nat_eq text (codes "network:"))

abbrev pub device_owner : Data → Option Text
device_owner d = kept is_free_owner (short_text d)

-- a letter or a digit of ASCII, a hyphen or an underscore
abbrev pub is_project_byte : ℕ → Bool
is_project_byte b = is_ascii_alphanumeric b || (b == 45 || b == 95)

-- 1 to 64 of them
abbrev pub is_project_name : Text → Bool
is_project_name text =
    nat_le 1 (length text) && (nat_le (length text) 64 && list_all is_project_byte text)

abbrev pub project_name : Data → Option Text
project_name d = kept is_project_name (as_str d)

-- a project, or `*` for all
abbrev pub is_target : Text → Bool
is_target text = bytes_eq text (codes "*") || is_project_name text

abbrev pub target_name : Data → Option Text
target_name d = kept is_target (as_str d)

abbrev pub network_type_of : Data → Option NetworkType
network_type_of =
    word_of ((codes "local", Local) ∷ (codes "flat", Flat) ∷ (codes "vlan", Vlan)
    ∷ (codes "vxlan", Vxlan) ∷ [])

-- a tag of IEEE 802.1Q or a number of VXLAN (RFC 7348): which of them, the network's type says
abbrev pub segment_number : Data → Option ℕ
segment_number = whole_of 1 16777215

abbrev pub version_of : ℕ → Option IpVersion
version_of n = if n == 4 then Some V4 else if n == 6 then Some V6 else None

abbrev pub ip_version : Data → Option IpVersion
ip_version d = option_and_then version_of (whole_of 4 6 d)

-- how the ports of a subnet of version 6 come by their addresses, and what its router tells of
-- that
abbrev pub mode_of : Data → Option Ipv6Mode
mode_of =
    word_of ((codes "slaac", Slaac) ∷ (codes "dhcpv6-stateful", Stateful)
    ∷ (codes "dhcpv6-stateless", Stateless) ∷ [])

abbrev pub is_subnet_prefix : Prefix → Bool
is_subnet_prefix p = nat_le 1 p.len && nat_le p.len (longest_of p.base)

-- an exact prefix of length 1 to 30, or of version 6 to 126
abbrev pub subnet_prefix : Data → Option Prefix
subnet_prefix d = kept is_subnet_prefix (exact_of d)

abbrev pub are_pools : List Span → Bool
are_pools spans = nat_le 1 (length spans) && pairwise are_apart spans

-- 1 to 20 disjoint spans
abbrev pub pools : Data → Option (List Span)
pools d = kept are_pools (list_of 20 span_of d)

abbrev pub name_servers : Data → Option (List Addr)
name_servers = list_of 5 address_of

abbrev pub host_routes : Data → Option (List Hop)
host_routes = list_of 20 hop_of

-- at most 30 different routes
abbrev pub router_routes : Data → Option (List Hop)
router_routes d = kept (pairwise other_hop) (list_of 30 hop_of d)

abbrev pub fixed_addresses : Data → Option (List FixedAsked)
fixed_addresses = list_of 5 fixed_of

abbrev pub address_pairs : Data → Option (List PairAsked)
address_pairs = list_of 10 pair_of

-- at most 20 different groups
abbrev pub group_ids : Data → Option (List Ident)
group_ids d = kept (pairwise other_id) (list_of 20 id_of d)

abbrev pub vnic_type_of : Data → Option VnicType
vnic_type_of = word_of ((codes "normal", Normal) ∷ [])

abbrev pub direction_of : Data → Option Direction
direction_of = word_of ((codes "ingress", Ingress) ∷ (codes "egress", Egress) ∷ [])

-- in any ASCII case
abbrev pub ethertype_in : Text → Option Ethertype
ethertype_in text =
    word_in ((codes "ipv4", Ipv4) ∷ (codes "ipv6", Ipv6) ∷ []) (str_to_ascii_lowercase text)

abbrev pub ethertype_of : Data → Option Ethertype
ethertype_of = said_by ethertype_in

-- protocols by their names (IANA)
abbrev pub named_protocol : Text → Option ℕ
named_protocol =
    word_in ((codes "icmp", 1) ∷ (codes "igmp", 2) ∷ (codes "tcp", 6) ∷ (codes "udp", 17)
    ∷ (codes "gre", 47)
    ∷ (codes "esp", 50) ∷ (codes "ah", 51) ∷ (codes "ipv6-icmp", 58) ∷ (codes "icmpv6", 58)
    ∷ (codes "ospf", 89) ∷ (codes "vrrp", 112) ∷ (codes "sctp", 132) ∷ [])

-- a name, or a number's text
abbrev pub protocol_in : Text → Option ℕ
protocol_in text = or_else (named_protocol text) (number_in 256 text)

-- a name, a number's text or a number to 255
abbrev pub protocol_of : Data → Option ℕ
protocol_of d = or_else (said_by protocol_in d) (whole_of 0 255 d)

-- a port of TCP or UDP, or a type or code of ICMP: which of them, the protocol says
abbrev pub port_number : Data → Option ℕ
port_number = whole_of 0 65535

abbrev pub object_type_of : Data → Option ObjectType
object_type_of = word_of ((codes "network", Network) ∷ [])

abbrev pub action_of : Data → Option Action
action_of =
    word_of ((codes "access_as_shared", Shared) ∷ (codes "access_as_external", External) ∷ [])

-- a tag of IEEE 802.1Q
abbrev pub wire_tag : Data → Option ℕ
wire_tag = whole_of 1 4094

-- a number of 64 bits
abbrev pub change_number : Data → Option Version
change_number = whole_of 0 (2 ^ 64 - 1)

abbrev pub is_empty : Option Members → Bool
is_empty None = false
is_empty (Some ms) = members_len ms == 0

-- an object without members
abbrev pub is_empty_object : Data → Bool
is_empty_object d = is_empty (as_object d)
