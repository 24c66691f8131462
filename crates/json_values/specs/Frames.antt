-- Frames as requests of the lab write them. This server's own.
use Rattle.std.specs.Prelude.{ℕ, ◌==◌, ◌||◌, not, Bool, List, [], ◌∷◌, ◌++◌, Option, option_map, option_and_then, codes}
use Rattle.net_addr.specs.Words.{Text}
use Rattle.serde_json.specs.Data.{Data}
use Rattle.api_types.specs.declared.group.Ethertype.{Ethertype}
use Rattle.api_types.specs.declared.group.Ethertype.TheVariants.{Ipv4, Ipv6}
use Rattle.plane_types.specs.Ends.{Ends, Ends4, Ends6}
use Rattle.plane_types.specs.declared.frame.Frame.{Frame}
use Rattle.plane_types.specs.declared.frame.Frame.TheVariants.{Dhcp, Ip, NeighbourAsk, Other}
use Rattle.plane_types.specs.declared.frame.KeyPart.{KeyPart}
use Rattle.plane_types.specs.declared.frame.KeyPart.TheVariants.{Tcp, Udp, EchoAsk, EchoReply, Proto}
use Rattle.json_values.specs.Values.{kept, applied, whole_of, word_of, object_of, member_of}
use Rattle.json_values.specs.Items.{four_of, mac_of, six_of}
use Rattle.json_values.specs.declared.frame.FrameKind.{FrameKind}
use Rattle.json_values.specs.declared.frame.FrameKind.TheVariants as kind
use Rattle.json_values.specs.declared.frame.Carried.{Carried}
use Rattle.json_values.specs.declared.frame.Carried.TheVariants as carried

-- a port of TCP or UDP, an id of an echo, a type of Ethernet
abbrev pub sixteen_bits : Data → Option ℕ
sixteen_bits = whole_of 0 65535

abbrev pub eight_bits : Data → Option ℕ
eight_bits = whole_of 0 255

-- the protocol of echoes in a packet of this version: ICMP and ICMPv6 (IANA, protocol numbers)
abbrev pub echo_protocol : Ethertype → ℕ
echo_protocol Ipv4 = 1
echo_protocol Ipv6 = 58

-- TCP, UDP and the version's echoes are written by their own names
abbrev pub is_other_protocol : Ethertype → ℕ → Bool
is_other_protocol version n = not (n == echo_protocol version || (n == 6 || n == 17))

abbrev pub other_protocol : Ethertype → Data → Option ℕ
other_protocol version d = kept (is_other_protocol version) (eight_bits d)

-- source and destination, of this version
abbrev pub four : ℕ → ℕ → Ends
four from to = Ends4 from to

abbrev pub six : ℕ → ℕ → Ends
six from to = Ends6 from to

abbrev pub ends_of : Ethertype → Data → Option Ends
ends_of Ipv4 d =
    applied (option_map four (member_of four_of (codes "from") d))
    (member_of four_of (codes "to") d)
ends_of Ipv6 d =
    applied (option_map six (member_of six_of (codes "from") d)) (member_of six_of (codes "to") d)

-- what a packet carries, by its `proto`
abbrev pub carried_of : Data → Option Carried
carried_of =
    word_of
    ((codes "tcp", carried.Tcp) ∷ (codes "udp", carried.Udp) ∷ (codes "echo_ask", carried.EchoAsk)
    ∷ (codes "echo_reply", carried.EchoReply) ∷ (codes "other", carried.Other) ∷ [])

abbrev pub packet_names : List Text
packet_names =
    codes "kind" ∷ codes "src" ∷ codes "dst" ∷ codes "from" ∷ codes "to" ∷ codes "ttl"
    ∷ codes "proto" ∷ []

abbrev pub part_names : Carried → List Text
part_names carried.Tcp = codes "sport" ∷ codes "dport" ∷ []
part_names carried.Udp = codes "sport" ∷ codes "dport" ∷ []
part_names carried.EchoAsk = codes "id" ∷ []
part_names carried.EchoReply = codes "id" ∷ []
part_names carried.Other = codes "number" ∷ []

abbrev pub tcp : ℕ → ℕ → KeyPart
tcp sport dport = Tcp sport dport

abbrev pub udp : ℕ → ℕ → KeyPart
udp sport dport = Udp sport dport

abbrev pub part_of : Ethertype → Carried → Data → Option KeyPart
part_of version carried.Tcp d =
    applied (option_map tcp (member_of sixteen_bits (codes "sport") d))
    (member_of sixteen_bits (codes "dport") d)
part_of version carried.Udp d =
    applied (option_map udp (member_of sixteen_bits (codes "sport") d))
    (member_of sixteen_bits (codes "dport") d)
part_of version carried.EchoAsk d = option_map EchoAsk (member_of sixteen_bits (codes "id") d)
part_of version carried.EchoReply d = option_map EchoReply (member_of sixteen_bits (codes "id") d)
part_of version carried.Other d =
    option_map Proto (member_of (other_protocol version) (codes "number") d)

abbrev pub packet : ℕ → ℕ → Ends → ℕ → KeyPart → Frame
packet src dst ends ttl part = Ip src dst ends ttl part

-- a packet of this version that carries this
abbrev pub packet_with : Ethertype → Carried → Data → Option Frame
packet_with version carries = object_of (packet_names ++ part_names carries) (λ d.
    applied (applied (applied (applied (option_map packet
    (member_of mac_of (codes "src") d)) (member_of mac_of (codes "dst") d)) (ends_of version d))
    (member_of eight_bits (codes "ttl") d)) (part_of version carries d))

abbrev pub packet_of : Ethertype → Data → Option Frame
packet_of version d =
    option_and_then (λ carries. packet_with version carries d)
    (member_of carried_of (codes "proto") d)

abbrev pub neighbour_ask : ℕ → Ends → Frame
neighbour_ask src ends = NeighbourAsk src ends

-- an ask for the MAC of an address of this version
abbrev pub ask_of : Ethertype → Data → Option Frame
ask_of version = object_of (codes "kind" ∷ codes "src" ∷ codes "from" ∷ codes "to" ∷ []) (λ d.
    applied (option_map neighbour_ask (member_of mac_of (codes "src") d)) (ends_of version d))

abbrev pub dhcp_ask : ℕ → ℕ → Frame
dhcp_ask src from = Dhcp src from

abbrev pub dhcp_of : Data → Option Frame
dhcp_of = object_of (codes "kind" ∷ codes "src" ∷ codes "from" ∷ []) (λ d.
    applied (option_map dhcp_ask (member_of mac_of (codes "src") d))
    (member_of four_of (codes "from") d))

abbrev pub other_frame : ℕ → ℕ → ℕ → Frame
other_frame src dst ethertype = Other src dst ethertype

abbrev pub other_of : Data → Option Frame
other_of = object_of (codes "kind" ∷ codes "src" ∷ codes "dst" ∷ codes "ethertype" ∷ []) (λ d.
    applied
    (applied (option_map other_frame (member_of mac_of (codes "src") d))
    (member_of mac_of (codes "dst") d)) (member_of sixteen_bits (codes "ethertype") d))

abbrev pub kind_of : Data → Option FrameKind
kind_of =
    word_of ((codes "ip4", kind.Ip4) ∷ (codes "ip6", kind.Ip6) ∷ (codes "arp_ask", kind.ArpAsk)
    ∷ (codes "neigh_ask", kind.NeighAsk)
    ∷ (codes "dhcp_ask", kind.Dhcp) ∷ (codes "other", kind.Other) ∷ [])

abbrev pub frame_by : FrameKind → Data → Option Frame
frame_by kind.Ip4 d = packet_of Ipv4 d
frame_by kind.Ip6 d = packet_of Ipv6 d
frame_by kind.ArpAsk d = ask_of Ipv4 d
frame_by kind.NeighAsk d = ask_of Ipv6 d
frame_by kind.Dhcp d = dhcp_of d
frame_by kind.Other d = other_of d

abbrev pub frame_of : Data → Option Frame
frame_of d = option_and_then (λ k. frame_by k d) (member_of kind_of (codes "kind") d)
