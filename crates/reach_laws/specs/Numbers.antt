-- The numbers by which one port reaches another, and the part of a packet that has such a number:
-- ports of TCP and UDP (RFC 9293, 3.1; RFC 768), echoes (RFC 792; RFC 4443, 4.1), and protocols
-- (IANA, protocol numbers).
use Rattle.std.specs.Prelude.{ℕ, ◌==◌, ◌&&◌, ◌||◌, nat_lt, not, Bool, false}
use Rattle.net_addr.specs.declared.address.Addr.{Addr}
use Rattle.net_addr.specs.declared.address.Addr.TheVariants.{V4, V6}
use Rattle.plane_types.specs.declared.frame.KeyPart.{KeyPart}
use Rattle.plane_types.specs.declared.frame.KeyPart.TheVariants.{EchoAsk, Proto, Tcp, Udp}
use Rattle.reach_laws.specs.declared.kind.ReachKind.{ReachKind}
use Rattle.reach_laws.specs.declared.kind.ReachKind.TheVariants.{Tcp as TcpReach, Udp as UdpReach, Echo as EchoReach, Other as OtherReach}

-- from a source port, or with an echo's id, to a number
abbrev pub part_by : ReachKind → ℕ → ℕ → KeyPart
part_by TcpReach s d = Tcp s d
part_by UdpReach s d = Udp s d
part_by EchoReach s d = EchoAsk s
part_by OtherReach s d = Proto d

-- above all numbers of the kind
abbrev pub number_end : ReachKind → ℕ
number_end TcpReach = 65536
number_end UdpReach = 65536
number_end EchoReach = 1
number_end OtherReach = 256

-- ICMP in version 4, ICMPv6 in version 6, TCP and UDP
abbrev pub is_own_protocol : Addr → ℕ → Bool
is_own_protocol (V4 x) d = (d == 1) || (d == 6) || (d == 17)
is_own_protocol (V6 x) d = (d == 6) || (d == 17) || (d == 58)

-- a protocol that belongs to another kind is left out
abbrev pub is_left_out : ReachKind → Addr → ℕ → Bool
is_left_out TcpReach a d = false
is_left_out UdpReach a d = false
is_left_out EchoReach a d = false
is_left_out OtherReach a d = is_own_protocol a d

-- a number of the kind, between addresses of this one's version
abbrev pub is_number : ReachKind → Addr → ℕ → Bool
is_number kind a d = nat_lt d (number_end kind) && not (is_left_out kind a d)
