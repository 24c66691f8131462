-- By what packets are tracked: ends and ports (RFC 2663, section 2.3, sessions; RFC 792 and RFC
-- 4443 for echoes).
use Rattle.std.specs.Prelude.{ℕ, ◌+◌, ◌&&◌, ◌==◌, Bool, Option, Some, None}
use Rattle.plane_types.specs.declared.frame.Frame.{Frame}
use Rattle.net_addr.specs.Addresses.{addr_eq}
use Rattle.plane_types.specs.Ends.{Ends, destination, echo_protocol, source, turned_round}
use Rattle.plane_types.specs.declared.frame.Frame.TheVariants.{Dhcp, Ip, NeighbourAsk, Other}
use Rattle.plane_types.specs.declared.frame.Key.{Key}
use Rattle.plane_types.specs.declared.frame.KeyKind.{KeyKind}
use Rattle.plane_types.specs.declared.frame.KeyKind.TheVariants.{EchoAsk as AskKey, Proto as ProtoKey, EchoReply as ReplyKey, Tcp as TcpKey, Udp as UdpKey}
use Rattle.plane_types.specs.declared.frame.KeyPart.{KeyPart}
use Rattle.plane_types.specs.declared.frame.KeyPart.TheVariants.{EchoAsk, EchoReply, Proto, Tcp, Udp}

-- an echo's id is its source port, and its reply's is the destination port; where there is no port
-- it is 0
abbrev pub key_of_part : KeyPart → Ends → Key
key_of_part (Tcp s d) ends = record { kind = TcpKey; ends = ends; sport = s; dport = d }
key_of_part (Udp s d) ends = record { kind = UdpKey; ends = ends; sport = s; dport = d }
key_of_part (EchoAsk i) ends = record { kind = AskKey; ends = ends; sport = i; dport = 0 }
key_of_part (EchoReply i) ends = record { kind = ReplyKey; ends = ends; sport = 0; dport = i }
key_of_part (Proto n) ends = record { kind = ProtoKey n; ends = ends; sport = 0; dport = 0 }

-- the key of a packet; another frame has none
abbrev pub frame_key : Frame → Option Key
frame_key (Ip src dst ends ttl part) = Some (key_of_part part ends)
frame_key (NeighbourAsk src ends) = None
frame_key (Dhcp src from) = None
frame_key (Other src dst ethertype) = None

abbrev pub answer_kind : KeyKind → KeyKind
answer_kind AskKey = ReplyKey
answer_kind ReplyKey = AskKey
answer_kind TcpKey = TcpKey
answer_kind UdpKey = UdpKey
answer_kind (ProtoKey n) = ProtoKey n

-- the key of an answer: ends and ports change places, and an echo with its reply
abbrev pub answer_key : Key → Key
answer_key k = record {
  kind = answer_kind k.kind;
  ends = turned_round k.ends;
  sport = k.dport;
  dport = k.sport;
}

abbrev pub kind_number : KeyKind → ℕ
kind_number TcpKey = 0
kind_number UdpKey = 1
kind_number AskKey = 2
kind_number ReplyKey = 3
kind_number (ProtoKey n) = 4 + n

abbrev pub kind_eq : KeyKind → KeyKind → Bool
kind_eq a b = kind_number a == kind_number b

abbrev pub key_eq : Key → Key → Bool
key_eq a b =
    kind_eq a.kind b.kind && addr_eq (source a.ends) (source b.ends) && (a.sport == b.sport)
    && addr_eq (destination a.ends) (destination b.ends) && (a.dport == b.dport)

-- the protocol of IP by its number (IANA); echoes are of ICMP or ICMPv6, by the version
abbrev pub protocol_of : Ends → KeyKind → ℕ
protocol_of ends TcpKey = 6
protocol_of ends UdpKey = 17
protocol_of ends AskKey = echo_protocol ends
protocol_of ends ReplyKey = echo_protocol ends
protocol_of ends (ProtoKey n) = n
