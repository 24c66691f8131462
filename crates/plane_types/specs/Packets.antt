-- Packets and asks as records, and the frames that they are.
use Rattle.std.specs.Prelude.{ℕ, ◌/◌, ◌%◌, ◌^◌, ◌==◌, Bool, true, false, Option, Some, None}
use Rattle.net_addr.specs.Words.{MacAddress}
use Rattle.plane_types.specs.Keys.{key_of_part}
use Rattle.plane_types.specs.Ends.{Ends}
use Rattle.plane_types.specs.declared.frame.Frame.{Frame}
use Rattle.plane_types.specs.declared.frame.Frame.TheVariants.{Dhcp, Ip, NeighbourAsk, Other}
use Rattle.plane_types.specs.declared.frame.Key.{Key}
use Rattle.plane_types.specs.declared.frame.KeyPart.{KeyPart}
use Rattle.plane_types.specs.declared.frame.KeyPart.TheVariants.{EchoAsk, EchoReply, Proto, Tcp, Udp}

-- a packet of IP in its frame; its time to live is the hop limit of version 6
pub record Packet : Type 0 where
  pub src : MacAddress
  pub dst : MacAddress
  pub ends : Ends
  pub ttl : ℕ
  pub part : KeyPart

-- who asks for the MAC of an address: by ARP (RFC 826), or by a neighbour solicitation (RFC 4861,
-- 4.3)
pub record AddressAsk : Type 0 where
  pub src : MacAddress
  pub ends : Ends

-- who asks for a lease (RFC 2131)
pub record LeaseAsk : Type 0 where
  pub src : MacAddress
  pub from : ℕ

abbrev pub packet : MacAddress → MacAddress → Ends → ℕ → KeyPart → Packet
packet src dst ends ttl part = record { src = src; dst = dst; ends = ends; ttl = ttl; part = part }

abbrev pub address_ask : MacAddress → Ends → AddressAsk
address_ask src ends = record { src = src; ends = ends }

abbrev pub lease_ask : MacAddress → ℕ → LeaseAsk
lease_ask src from = record { src = src; from = from }

abbrev pub ip_frame : Packet → Frame
ip_frame p = Ip p.src p.dst p.ends p.ttl p.part

-- the packet in a frame of IP
abbrev pub packet_in : Frame → Option Packet
packet_in (Ip src dst ends ttl part) = Some (packet src dst ends ttl part)
packet_in (NeighbourAsk src ends) = None
packet_in (Dhcp src from) = None
packet_in (Other src dst ethertype) = None

abbrev pub ask_frame : AddressAsk → Frame
ask_frame a = NeighbourAsk a.src a.ends

abbrev pub dhcp_frame : LeaseAsk → Frame
dhcp_frame a = Dhcp a.src a.from

abbrev pub key_of : Packet → Key
key_of p = key_of_part p.part p.ends

-- the packet's destination port, or an echo's id in its reply, is another
abbrev pub part_to : KeyPart → ℕ → KeyPart
part_to (Tcp s d) port = Tcp s port
part_to (Udp s d) port = Udp s port
part_to (EchoReply i) port = EchoReply port
part_to (EchoAsk i) port = EchoAsk i
part_to (Proto n) port = Proto n

-- its source port, or an echo's id, is another
abbrev pub part_from : KeyPart → ℕ → KeyPart
part_from (Tcp s d) port = Tcp port d
part_from (Udp s d) port = Udp port d
part_from (EchoAsk i) port = EchoAsk port
part_from (EchoReply i) port = EchoReply i
part_from (Proto n) port = Proto n

-- a MAC with an odd first byte names many
abbrev pub is_for_many : MacAddress → Bool
is_for_many mac = (mac / 2 ^ 40) % 2 == 1

-- packets to many, and what is neither a packet nor an ask, are carried nowhere
abbrev pub is_unsupported : Frame → Bool
is_unsupported (Ip src dst ends ttl part) = is_for_many dst
is_unsupported (NeighbourAsk src ends) = false
is_unsupported (Dhcp src from) = false
is_unsupported (Other src dst ethertype) = true
