-- The attributes that bodies have, kind by kind, in byte order of their names (OpenStack API
-- reference, Networking API v2.0; those of the lab are this server's own).
use Rattle.std.specs.Prelude.{List, [], ◌∷◌, codes}
use Rattle.api_types.specs.declared.kind.Kind.{Kind}
use Rattle.api_types.specs.declared.kind.Kind.TheVariants as kind
use Rattle.json_values.specs.declared.allowed.GrammarName.TheVariants.{AddressMode, AddressPairs, AllocationPools, AnyAddress, CardMac, ChangeNumber, DeviceOwner, EtherVersion, EventFrame, FixedAddresses, Flag, FourAddress, GatewayInfo, GroupIds, GroupName, HostRoutes, NameServers, NetworkKind, PermittedAction, PolicyObject, PortNumber, ProjectName, ProtocolNumber, RemotePrefix, RouterRoutes, RowId, RuleDirection, SegmentNumber, ShortText, SubnetPrefix, SubnetVersion, TargetName, VirtualCard, WireTag}
use Rattle.neutron_json.specs.declared.attribute.ReadIn.TheVariants.{Creation, Update, Both}
use Rattle.neutron_json.specs.declared.attribute.Needs.TheVariants.{Value, ValueOrNull, Required, RequiredOrNull}
use Rattle.neutron_json.specs.Attributes.{Attribute, attribute}

abbrev pub network_attributes : List Attribute
network_attributes =
    attribute (codes "admin_state_up") Flag Both Value
    ∷ attribute (codes "description") ShortText Both Value
    ∷ attribute (codes "name") ShortText Both Value
    ∷ attribute (codes "project_id") ProjectName Creation Value
    ∷ attribute (codes "provider:network_type") NetworkKind Creation Value
    ∷ attribute (codes "provider:physical_network") ShortText Creation ValueOrNull
    ∷ attribute (codes "provider:segmentation_id") SegmentNumber Creation ValueOrNull
    ∷ attribute (codes "router:external") Flag Both Value
    ∷ attribute (codes "shared") Flag Both Value
    ∷ attribute (codes "tenant_id") ProjectName Creation Value ∷ []

abbrev pub subnet_attributes : List Attribute
subnet_attributes =
    attribute (codes "allocation_pools") AllocationPools Both Value
    ∷ attribute (codes "cidr") SubnetPrefix Creation Required
    ∷ attribute (codes "description") ShortText Both Value
    ∷ attribute (codes "dns_nameservers") NameServers Both Value
    ∷ attribute (codes "enable_dhcp") Flag Both Value
    ∷ attribute (codes "gateway_ip") AnyAddress Both ValueOrNull
    ∷ attribute (codes "host_routes") HostRoutes Both Value
    ∷ attribute (codes "ip_version") SubnetVersion Creation Required
    ∷ attribute (codes "ipv6_address_mode") AddressMode Creation ValueOrNull
    ∷ attribute (codes "ipv6_ra_mode") AddressMode Creation ValueOrNull
    ∷ attribute (codes "name") ShortText Both Value
    ∷ attribute (codes "network_id") RowId Creation Required ∷ []

abbrev pub port_attributes : List Attribute
port_attributes =
    attribute (codes "admin_state_up") Flag Both Value
    ∷ attribute (codes "allowed_address_pairs") AddressPairs Both Value
    ∷ attribute (codes "binding:host_id") ShortText Both Value
    ∷ attribute (codes "binding:vnic_type") VirtualCard Both Value
    ∷ attribute (codes "description") ShortText Both Value
    ∷ attribute (codes "device_id") ShortText Both Value
    ∷ attribute (codes "device_owner") DeviceOwner Both Value
    ∷ attribute (codes "fixed_ips") FixedAddresses Both Value
    ∷ attribute (codes "mac_address") CardMac Both Value
    ∷ attribute (codes "name") ShortText Both Value
    ∷ attribute (codes "network_id") RowId Creation Required
    ∷ attribute (codes "port_security_enabled") Flag Both Value
    ∷ attribute (codes "project_id") ProjectName Creation Value
    ∷ attribute (codes "security_groups") GroupIds Both Value
    ∷ attribute (codes "tenant_id") ProjectName Creation Value ∷ []

abbrev pub group_attributes : List Attribute
group_attributes =
    attribute (codes "description") ShortText Both Value
    ∷ attribute (codes "name") GroupName Both Value
    ∷ attribute (codes "project_id") ProjectName Creation Value
    ∷ attribute (codes "tenant_id") ProjectName Creation Value ∷ []

abbrev pub rule_attributes : List Attribute
rule_attributes =
    attribute (codes "description") ShortText Both Value
    ∷ attribute (codes "direction") RuleDirection Creation Required
    ∷ attribute (codes "ethertype") EtherVersion Creation Value
    ∷ attribute (codes "port_range_max") PortNumber Creation ValueOrNull
    ∷ attribute (codes "port_range_min") PortNumber Creation ValueOrNull
    ∷ attribute (codes "protocol") ProtocolNumber Creation ValueOrNull
    ∷ attribute (codes "remote_group_id") RowId Creation ValueOrNull
    ∷ attribute (codes "remote_ip_prefix") RemotePrefix Creation ValueOrNull
    ∷ attribute (codes "security_group_id") RowId Creation Required ∷ []

abbrev pub router_attributes : List Attribute
router_attributes =
    attribute (codes "admin_state_up") Flag Both Value
    ∷ attribute (codes "description") ShortText Both Value
    ∷ attribute (codes "external_gateway_info") GatewayInfo Both ValueOrNull
    ∷ attribute (codes "name") ShortText Both Value
    ∷ attribute (codes "project_id") ProjectName Creation Value
    ∷ attribute (codes "routes") RouterRoutes Update Value
    ∷ attribute (codes "tenant_id") ProjectName Creation Value ∷ []

abbrev pub floating_attributes : List Attribute
floating_attributes =
    attribute (codes "description") ShortText Both Value
    ∷ attribute (codes "fixed_ip_address") FourAddress Both Value
    ∷ attribute (codes "floating_ip_address") FourAddress Creation Value
    ∷ attribute (codes "floating_network_id") RowId Creation Required
    ∷ attribute (codes "port_id") RowId Both ValueOrNull
    ∷ attribute (codes "project_id") ProjectName Creation Value
    ∷ attribute (codes "tenant_id") ProjectName Creation Value ∷ []

abbrev pub policy_attributes : List Attribute
policy_attributes =
    attribute (codes "action") PermittedAction Creation Required
    ∷ attribute (codes "object_id") RowId Creation Required
    ∷ attribute (codes "object_type") PolicyObject Creation Required
    ∷ attribute (codes "project_id") ProjectName Creation Value
    ∷ attribute (codes "target_tenant") TargetName Both Required
    ∷ attribute (codes "tenant_id") ProjectName Creation Value ∷ []

-- exactly one of the two
abbrev pub interface_attributes : List Attribute
interface_attributes =
    attribute (codes "port_id") RowId Creation Value
    ∷ attribute (codes "subnet_id") RowId Creation Value ∷ []

-- a call of the lab that names a host
abbrev pub host_attributes : List Attribute
host_attributes =
    attribute (codes "host") ShortText Creation Required ∷ []

abbrev pub deliver_attributes : List Attribute
deliver_attributes =
    attribute (codes "host") ShortText Creation Required
    ∷ attribute (codes "number") ChangeNumber Creation Required ∷ []

-- a frame that a port sends
abbrev pub port_event_attributes : List Attribute
port_event_attributes =
    attribute (codes "frame") EventFrame Creation Required
    ∷ attribute (codes "port") RowId Creation Required ∷ []

-- a frame from a physical network, untagged where the tag is null
abbrev pub wire_event_attributes : List Attribute
wire_event_attributes =
    attribute (codes "frame") EventFrame Creation Required
    ∷ attribute (codes "physical_network") ShortText Creation Required
    ∷ attribute (codes "segmentation_id") WireTag Creation RequiredOrNull ∷ []

-- the attributes of a kind; projects have none
abbrev pub attributes_of : Kind → List Attribute
attributes_of kind.Project = []
attributes_of kind.Network = network_attributes
attributes_of kind.Subnet = subnet_attributes
attributes_of kind.Port = port_attributes
attributes_of kind.Group = group_attributes
attributes_of kind.Rule = rule_attributes
attributes_of kind.Router = router_attributes
attributes_of kind.Floating = floating_attributes
attributes_of kind.Policy = policy_attributes
