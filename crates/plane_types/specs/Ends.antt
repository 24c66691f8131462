-- The two ends of a packet, or of an ask for an address: of one version of IP (RFC 791; RFC 8200).
use Rattle.std.specs.Prelude.{ℕ, Bool, true, false}
use Rattle.net_addr.specs.Addresses.{number}
use Rattle.net_addr.specs.declared.address.Addr.{Addr}
use Rattle.net_addr.specs.declared.address.Addr.TheVariants.{V4, V6}
use Rattle.api_types.specs.declared.group.Ethertype.{Ethertype}
use Rattle.api_types.specs.declared.group.Ethertype.TheVariants.{Ipv4, Ipv6}

-- the numbers of source and destination, by their version; ends of two versions can't be written
pub data Ends : Type 0 where
  Ends4 : ℕ → ℕ → Ends
  Ends6 : ℕ → ℕ → Ends

-- two addresses of one version
abbrev pub ends_of : Addr → Addr → Ends
ends_of (V4 from) to = Ends4 from (number to)
ends_of (V6 from) to = Ends6 from (number to)

-- from where
abbrev pub source : Ends → Addr
source (Ends4 from to) = V4 from
source (Ends6 from to) = V6 from

-- to where
abbrev pub destination : Ends → Addr
destination (Ends4 from to) = V4 to
destination (Ends6 from to) = V6 to

-- the ends of an answer
abbrev pub turned_round : Ends → Ends
turned_round (Ends4 from to) = Ends4 to from
turned_round (Ends6 from to) = Ends6 to from

-- translated to an address of version 4, source or destination (RFC 3022); those of version 6 stay
abbrev pub with_source : Ends → ℕ → Ends
with_source (Ends4 from to) n = Ends4 n to
with_source (Ends6 from to) n = Ends6 from to

abbrev pub with_destination : Ends → ℕ → Ends
with_destination (Ends4 from to) n = Ends4 from n
with_destination (Ends6 from to) n = Ends6 from to

-- whether the ends are of version 4
abbrev pub are_four : Ends → Bool
are_four (Ends4 from to) = true
are_four (Ends6 from to) = false

-- the ethertype of their frames (IANA, IEEE 802 numbers: 0x0800 and 0x86dd)
abbrev pub ethertype_of : Ends → Ethertype
ethertype_of (Ends4 from to) = Ipv4
ethertype_of (Ends6 from to) = Ipv6

-- the protocol of an echo between them: ICMP or ICMPv6 (IANA, protocol numbers)
abbrev pub echo_protocol : Ends → ℕ
echo_protocol (Ends4 from to) = 1
echo_protocol (Ends6 from to) = 58

-- the type of an echo, and of its reply (RFC 792; RFC 4443, 4.1 and 4.2); the code of both is 0
abbrev pub ask_type : Ends → ℕ
ask_type (Ends4 from to) = 8
ask_type (Ends6 from to) = 128

abbrev pub reply_type : Ends → ℕ
reply_type (Ends4 from to) = 0
reply_type (Ends6 from to) = 129
