-- Which packets the rules of a port's security groups allow (Networking API v2.0, security group
-- rules).
use Rattle.std.specs.Prelude.{ℕ, ◌&&◌, ◌||◌, ◌==◌, nat_le, Bool, true, false, Option, Some, None, if◌then◌else◌}
use Rattle.std.specs.List.{list_any}
use Rattle.net_addr.specs.declared.address.Addr.{Addr}
use Rattle.net_addr.specs.Prefixes.{Prefix, contains}
use Rattle.api_types.specs.Consistent.Groups.{is_direction, is_ethertype}
use Rattle.api_types.specs.Ident.{Ident}
use Rattle.api_types.specs.RowLists.{RowLists}
use Rattle.api_types.specs.declared.group.Direction.{Direction}
use Rattle.api_types.specs.declared.group.Direction.TheVariants.{Egress, Ingress}
use Rattle.api_types.specs.declared.group.Ethertype.{Ethertype}
use Rattle.api_types.specs.declared.group.RuleRow.{RuleRow}
use Rattle.api_types.specs.declared.port.PortRow.{PortRow}
use Rattle.plane_types.specs.Ends.{Ends, ask_type, destination, ethertype_of, reply_type, source}
use Rattle.plane_types.specs.Keys.{protocol_of}
use Rattle.plane_types.specs.declared.frame.Key.{Key}
use Rattle.plane_types.specs.declared.frame.KeyKind.{KeyKind}
use Rattle.plane_types.specs.declared.frame.KeyKind.TheVariants.{EchoAsk as AskKey, Proto as ProtoKey, EchoReply as ReplyKey, Tcp as TcpKey, Udp as UdpKey}
use Rattle.api_types.specs.Members.{names_group, is_member}

-- what a rule and a filter row say alike

abbrev pub same_or_none : Option ℕ → ℕ → Bool
same_or_none None n = true
same_or_none (Some m) n = m == n

abbrev pub at_least : Option ℕ → ℕ → Bool
at_least None n = true
at_least (Some m) n = nat_le m n

abbrev pub at_most : Option ℕ → ℕ → Bool
at_most None n = true
at_most (Some m) n = nat_le n m

abbrev pub is_none_of : Option ℕ → Bool
is_none_of None = true
is_none_of (Some n) = false

-- the protocols of which rules give a type and a code: ICMP and ICMPv6 (IANA, protocol numbers)
abbrev pub has_type : ℕ → Bool
has_type n = (n == 1) || (n == 58)

-- the destination port is in the range, of which a null end doesn't bound; of an echo the type and
-- the code equal the parts that aren't null (RFC 792; RFC 4443), and a packet of ICMP or ICMPv6
-- that is no echo, in either version, meets null parts alone
abbrev pub in_range : Option ℕ → Option ℕ → Ends → KeyKind → ℕ → Bool
in_range low high ends AskKey port = same_or_none low (ask_type ends) && same_or_none high 0
in_range low high ends ReplyKey port = same_or_none low (reply_type ends) && same_or_none high 0
in_range low high ends TcpKey port = at_least low port && at_most high port
in_range low high ends UdpKey port = at_least low port && at_most high port
in_range low high ends (ProtoKey n) port =
    if has_type n then is_none_of low && is_none_of high
    else at_least low port && at_most high port

-- the far address is the source for ingress, the destination for egress
abbrev pub far_of : Direction → Key → Addr
far_of Ingress k = source k.ends
far_of Egress k = destination k.ends

-- it is in the remote prefix, or a member's of the remote group, or both are null
abbrev pub far_fits : (Ident → Addr → Bool) → Option Prefix → Option Ident → Addr → Bool
far_fits is_in None None x = true
far_fits is_in (Some p) None x = contains p x
far_fits is_in None (Some g) x = is_in g x
far_fits is_in (Some p) (Some g) x = contains p x || is_in g x

-- the ethertype is that of the key's version
abbrev pub parts_fit : (Ident → Addr → Bool) → Direction → Ethertype
    → Option ℕ → Option ℕ → Option ℕ → Option Prefix → Option Ident → Direction → Key → Bool
parts_fit is_in own ethertype protocol low high prefix group direction key =
    is_direction own direction && is_ethertype ethertype (ethertype_of key.ends)
    && same_or_none protocol (protocol_of key.ends key.kind)
    && in_range low high key.ends key.kind key.dport
    && far_fits is_in prefix group (far_of direction key)

-- rules

unfoldable pub rule_matches : RowLists → Direction → Key → RuleRow → Bool
rule_matches rows direction key r =
    parts_fit (is_member rows) r.direction r.ethertype r.protocol r.low r.high
    r.remote_prefix r.remote_group direction key

-- some rule of some group of the port matches
unfoldable pub rules_allow : RowLists → PortRow → Direction → Key → Bool
rules_allow rows p direction key =
    list_any (λ r. names_group r.group p.groups && rule_matches rows direction key r) rows.rules
