-- The first packet from an address of one port to an address of another, as a host sends it: to the
-- other port itself if both are on one network, otherwise to the gateway of the sender's subnet
-- (RFC 1122, section 3.3.1.1; RFC 4861, section 5.2). Its time to live is 64 (RFC 1700).
use Rattle.std.specs.Prelude.{Bool, Option, Some, find, option_map, option_and_then, if◌then◌else◌}
use Rattle.net_addr.specs.Addresses.{addr_eq}
use Rattle.net_addr.specs.Words.{MacAddress}
use Rattle.net_addr.specs.declared.address.Addr.{Addr}
use Rattle.api_types.specs.Holders.{holder}
use Rattle.api_types.specs.RowLists.{RowLists}
use Rattle.api_types.specs.RowsWith.{subnet_with}
use Rattle.api_types.specs.Table.{ident_eq}
use Rattle.api_types.specs.declared.port.Fixed.{Fixed}
use Rattle.api_types.specs.declared.port.PortRow.{PortRow}
use Rattle.api_types.specs.declared.subnet.SubnetRow.{SubnetRow}
use Rattle.plane_types.specs.Ends.{ends_of}
use Rattle.plane_types.specs.Packets.{Packet, ip_frame, packet}
use Rattle.plane_types.specs.declared.event.Event.{Event}
use Rattle.plane_types.specs.declared.event.Event.TheVariants.{FromPort}
use Rattle.plane_types.specs.declared.frame.KeyPart.{KeyPart}

abbrev pub is_at : Addr → Fixed → Bool
is_at a f = addr_eq f.address a

-- the gateway of the subnet in which a port holds an address
abbrev pub gateway_for : RowLists → PortRow → Addr → Option Addr
gateway_for rows p a =
    option_and_then
    (λ (f : Fixed). option_and_then (λ (s : SubnetRow). s.gateway) (subnet_with rows f.subnet))
    (find (is_at a) p.fixed)

-- the MAC to which a first packet goes: on one network that of the other port, otherwise that of
-- the gateway's holder
abbrev pub first_mac : RowLists → PortRow → Addr → PortRow → Option MacAddress
first_mac rows p a q =
    if ident_eq p.network q.network then Some q.mac
    else option_map (λ (h : PortRow). h.mac)
    (option_and_then (holder rows p.network) (gateway_for rows p a))

abbrev pub first_packet : PortRow → Addr → Addr → KeyPart → MacAddress → Packet
first_packet p a b part mac = packet p.mac mac (ends_of a b) 64 part

-- the event; none if there is no such MAC
abbrev pub first_event : RowLists → PortRow → Addr → PortRow → Addr → KeyPart → Option Event
first_event rows p a q b part =
    option_map (λ (mac : MacAddress). FromPort p.id (ip_frame (first_packet p a b part mac)))
    (first_mac rows p a q)
