-- Which values are allowed by themselves, by the name of their grammar.
use Rattle.std.specs.Prelude.{◌||◌, Bool, is_some}
use Rattle.serde_json.specs.Data.{Data}
use Rattle.serde_json.specs.Find.{as_bool}
use Rattle.json_values.specs.Items.{id_of, four_of, address_of, card_of, prefix_said, gateway_of}
use Rattle.json_values.specs.Frames.{frame_of}
use Rattle.json_values.specs.Grammars.{short_text, group_name, device_owner, project_name, target_name, network_type_of, segment_number, ip_version, mode_of, subnet_prefix, pools, name_servers, host_routes, router_routes, fixed_addresses, address_pairs, group_ids, vnic_type_of, direction_of, ethertype_of, protocol_of, port_number, object_type_of, action_of, wire_tag, change_number, is_empty_object}
use Rattle.json_values.specs.declared.allowed.GrammarName.{GrammarName}
use Rattle.json_values.specs.declared.allowed.GrammarName.TheVariants.{ShortText, GroupName, DeviceOwner, ProjectName, TargetName, Flag, RowId, NetworkKind, SegmentNumber, SubnetVersion, AddressMode, SubnetPrefix, AnyAddress, FourAddress, AllocationPools, NameServers, HostRoutes, RouterRoutes, CardMac, FixedAddresses, AddressPairs, GroupIds, VirtualCard, RuleDirection, EtherVersion, ProtocolNumber, PortNumber, RemotePrefix, GatewayInfo, PolicyObject, PermittedAction, WireTag, ChangeNumber, EventFrame}

-- the grammar reads the value; an object without members stands for no gateway
abbrev pub allows : GrammarName → Data → Bool
allows ShortText d = is_some (short_text d)
allows GroupName d = is_some (group_name d)
allows DeviceOwner d = is_some (device_owner d)
allows ProjectName d = is_some (project_name d)
allows TargetName d = is_some (target_name d)
allows Flag d = is_some (as_bool d)
allows RowId d = is_some (id_of d)
allows NetworkKind d = is_some (network_type_of d)
allows SegmentNumber d = is_some (segment_number d)
allows SubnetVersion d = is_some (ip_version d)
allows AddressMode d = is_some (mode_of d)
allows SubnetPrefix d = is_some (subnet_prefix d)
allows AnyAddress d = is_some (address_of d)
allows FourAddress d = is_some (four_of d)
allows AllocationPools d = is_some (pools d)
allows NameServers d = is_some (name_servers d)
allows HostRoutes d = is_some (host_routes d)
allows RouterRoutes d = is_some (router_routes d)
allows CardMac d = is_some (card_of d)
allows FixedAddresses d = is_some (fixed_addresses d)
allows AddressPairs d = is_some (address_pairs d)
allows GroupIds d = is_some (group_ids d)
allows VirtualCard d = is_some (vnic_type_of d)
allows RuleDirection d = is_some (direction_of d)
allows EtherVersion d = is_some (ethertype_of d)
allows ProtocolNumber d = is_some (protocol_of d)
allows PortNumber d = is_some (port_number d)
allows RemotePrefix d = is_some (prefix_said d)
allows GatewayInfo d = is_some (gateway_of d) || is_empty_object d
allows PolicyObject d = is_some (object_type_of d)
allows PermittedAction d = is_some (action_of d)
allows WireTag d = is_some (wire_tag d)
allows ChangeNumber d = is_some (change_number d)
allows EventFrame d = is_some (frame_of d)
