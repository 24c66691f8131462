-- Rows that have what a creation's body gives, and forms in which that is given again.
use Rattle.std.specs.Prelude.{◌≡◌, ◌==◌, ◌&&◌, Bool, false, Option, Some, None, option_map, ℕ, if◌then◌else◌}
use Rattle.net_addr.specs.Words.{Text}
use Rattle.net_addr.specs.Addresses.{is_v4}
use Rattle.net_addr.specs.declared.address.Addr.{Addr}
use Rattle.api_types.specs.Lists.{is_some_so}
use Rattle.api_types.specs.RowLists.{RowLists}
use Rattle.api_types.specs.declared.form.Given.{Given}
use Rattle.api_types.specs.declared.form.Given.TheVariants.{Absent, Null, Is}
use Rattle.api_types.specs.declared.form.IpVersion.{IpVersion}
use Rattle.api_types.specs.declared.form.IpVersion.TheVariants.{V4, V6}
use Rattle.api_types.specs.declared.form.NetworkType.{NetworkType}
use Rattle.api_types.specs.declared.form.NetworkType.TheVariants as type
use Rattle.api_types.specs.declared.form.ObjectType.TheVariants as ObjectType
use Rattle.api_types.specs.declared.form.VnicType.TheVariants.{Normal}
use Rattle.api_types.specs.declared.floating.Target.{Target}
use Rattle.api_types.specs.declared.network.Segment.{Segment}
use Rattle.api_types.specs.declared.network.Segment.TheVariants as segment
use Rattle.api_types.specs.declared.policy.Action.TheVariants.{Shared, External}
use Rattle.api_policy.specs.Networks.{is_open}
use Rattle.api_types.specs.declared.form.NetworkForm.{NetworkForm}
use Rattle.api_types.specs.declared.form.SubnetForm.{SubnetForm}
use Rattle.api_types.specs.declared.form.PortForm.{PortForm}
use Rattle.api_types.specs.declared.form.GroupForm.{GroupForm}
use Rattle.api_types.specs.declared.form.RuleForm.{RuleForm}
use Rattle.api_types.specs.declared.form.RouterForm.{RouterForm}
use Rattle.api_types.specs.declared.form.FloatingForm.{FloatingForm}
use Rattle.api_types.specs.declared.form.PolicyForm.{PolicyForm}
use Rattle.api_types.specs.declared.network.NetworkRow.{NetworkRow}
use Rattle.api_types.specs.declared.subnet.SubnetRow.{SubnetRow}
use Rattle.api_types.specs.declared.port.PortRow.{PortRow}
use Rattle.api_types.specs.declared.group.GroupRow.{GroupRow}
use Rattle.api_types.specs.declared.group.RuleRow.{RuleRow}
use Rattle.api_types.specs.declared.router.RouterRow.{RouterRow}
use Rattle.api_types.specs.declared.floating.FloatingRow.{FloatingRow}
use Rattle.api_types.specs.declared.policy.PolicyRow.{PolicyRow}
use Rattle.neutron_json.specs.Forms.{version_6_given}

-- where a value is given, this is it
abbrev pub Has : {T : Type 0} → Given T → T → Type 0
Has Absent x = Unit {0}
Has Null x = Unit {0}
Has (Is y) x = x ≡ y

-- the same of what may be null
abbrev pub Holds : {T : Type 0} → Given T → Option T → Type 0
Holds Absent o = Unit {0}
Holds Null o = o ≡ None
Holds (Is y) o = o ≡ Some y

-- where a value is given, it is given again
abbrev pub Again : {T : Type 0} → Given T → Given T → Type 0
Again Absent g = Unit {0}
Again Null g = Unit {0}
Again (Is x) g = g ≡ Is x

-- and null is null again
abbrev pub AgainOrNull : {T : Type 0} → Given T → Given T → Type 0
AgainOrNull Absent g = Unit {0}
AgainOrNull Null g = g ≡ Null
AgainOrNull (Is x) g = g ≡ Is x

abbrev pub segment_type : Segment → NetworkType
segment_type segment.Local = type.Local
segment_type (segment.Flat physical) = type.Flat
segment_type (segment.Vlan physical tag) = type.Vlan
segment_type (segment.Vxlan n) = type.Vxlan

abbrev pub segment_physical : Segment → Option Text
segment_physical segment.Local = None
segment_physical (segment.Flat physical) = Some physical
segment_physical (segment.Vlan physical tag) = Some physical
segment_physical (segment.Vxlan n) = None

abbrev pub segment_id : Segment → Option ℕ
segment_id segment.Local = None
segment_id (segment.Flat physical) = None
segment_id (segment.Vlan physical tag) = Some tag
segment_id (segment.Vxlan n) = Some n

-- the row has what the form gives
pub record IsNetworkOf (f : NetworkForm) (rows : RowLists) (r : NetworkRow) : Type 0 where
  pub name : Has f.name r.name
  pub description : Has f.description r.description
  pub admin_state_up : Has f.admin_state_up r.up
  pub shared : Has f.shared (is_open rows.policies r.id Shared)
  pub router_external : Has f.router_external (is_open rows.policies r.id External)
  pub provider_network_type : Has f.provider_network_type (segment_type r.segment)
  pub provider_physical_network : Holds f.provider_physical_network (segment_physical r.segment)
  pub provider_segmentation_id : Holds f.provider_segmentation_id (segment_id r.segment)
  pub project_id : Has f.project_id r.project
  pub tenant_id : Has f.tenant_id r.project

pub record NetworkAgain (f g : NetworkForm) : Type 0 where
  pub name : Again f.name g.name
  pub description : Again f.description g.description
  pub admin_state_up : Again f.admin_state_up g.admin_state_up
  pub shared : Again f.shared g.shared
  pub router_external : Again f.router_external g.router_external
  pub provider_network_type : Again f.provider_network_type g.provider_network_type
  pub provider_physical_network : AgainOrNull f.provider_physical_network
      g.provider_physical_network
  pub provider_segmentation_id : AgainOrNull f.provider_segmentation_id g.provider_segmentation_id
  pub project_id : Again f.project_id g.project_id
  pub tenant_id : Again f.tenant_id g.tenant_id

-- the version of an address
abbrev pub version_of : Addr → IpVersion
version_of x = if is_v4 x then V4 else V6

-- the row has what the form gives
pub record IsSubnetOf (f : SubnetForm) (r : SubnetRow) : Type 0 where
  pub name : Has f.name r.name
  pub description : Has f.description r.description
  pub network_id : Has f.network_id r.network
  pub ip_version : Has f.ip_version (version_of r.prefix.base)
  pub ipv6_address_mode : Holds f.ipv6_address_mode r.address_mode
  pub ipv6_ra_mode : Holds f.ipv6_ra_mode r.ra_mode
  pub cidr : Has f.cidr r.prefix
  pub gateway_ip : Holds f.gateway_ip r.gateway
  pub allocation_pools : Has f.allocation_pools r.pools
  pub enable_dhcp : Has f.enable_dhcp r.dhcp
  pub dns_nameservers : Has f.dns_nameservers r.dns
  pub host_routes : Has f.host_routes r.host_routes

pub record SubnetAgain (f g : SubnetForm) : Type 0 where
  pub name : Again f.name g.name
  pub description : Again f.description g.description
  pub network_id : Again f.network_id g.network_id
  pub ip_version : Again f.ip_version g.ip_version
  pub ipv6_address_mode : AgainOrNull f.ipv6_address_mode g.ipv6_address_mode
  pub ipv6_ra_mode : AgainOrNull f.ipv6_ra_mode g.ipv6_ra_mode
  pub cidr : Again f.cidr g.cidr
  pub gateway_ip : AgainOrNull f.gateway_ip g.gateway_ip
  pub allocation_pools : Again f.allocation_pools g.allocation_pools
  pub enable_dhcp : Again f.enable_dhcp g.enable_dhcp
  pub dns_nameservers : Again f.dns_nameservers g.dns_nameservers
  pub host_routes : Again f.host_routes g.host_routes

-- the row has what the form gives
pub record IsPortOf (f : PortForm) (rows : RowLists) (r : PortRow) : Type 0 where
  pub name : Has f.name r.name
  pub description : Has f.description r.description
  pub admin_state_up : Has f.admin_state_up r.up
  pub network_id : Has f.network_id r.network
  pub mac_address : Has f.mac_address r.mac
  pub port_security_enabled : Has f.port_security_enabled r.secured
  pub security_groups : Has f.security_groups r.groups
  pub device_id : Has f.device_id r.device
  pub device_owner : Has f.device_owner r.owner
  pub binding_host_id : Has f.binding_host_id r.host
  pub binding_vnic_type : Has f.binding_vnic_type Normal
  pub project_id : Has f.project_id r.project
  pub tenant_id : Has f.tenant_id r.project

pub record PortAgain (f g : PortForm) : Type 0 where
  pub name : Again f.name g.name
  pub description : Again f.description g.description
  pub admin_state_up : Again f.admin_state_up g.admin_state_up
  pub network_id : Again f.network_id g.network_id
  pub mac_address : Again f.mac_address g.mac_address
  pub port_security_enabled : Again f.port_security_enabled g.port_security_enabled
  pub security_groups : Again f.security_groups g.security_groups
  pub device_id : Again f.device_id g.device_id
  pub device_owner : Again f.device_owner g.device_owner
  pub binding_host_id : Again f.binding_host_id g.binding_host_id
  pub binding_vnic_type : Again f.binding_vnic_type g.binding_vnic_type
  pub project_id : Again f.project_id g.project_id
  pub tenant_id : Again f.tenant_id g.tenant_id

-- the row has what the form gives
pub record IsGroupOf (f : GroupForm) (rows : RowLists) (r : GroupRow) : Type 0 where
  pub name : Has f.name r.name
  pub description : Has f.description r.description
  pub project_id : Has f.project_id r.project
  pub tenant_id : Has f.tenant_id r.project

pub record GroupAgain (f g : GroupForm) : Type 0 where
  pub name : Again f.name g.name
  pub description : Again f.description g.description
  pub project_id : Again f.project_id g.project_id
  pub tenant_id : Again f.tenant_id g.tenant_id

-- the row has what the form gives
pub record IsRuleOf (f : RuleForm) (r : RuleRow) : Type 0 where
  pub description : Has f.description r.description
  pub security_group_id : Has f.security_group_id r.group
  pub direction : Has f.direction r.direction
  pub ethertype : Has f.ethertype r.ethertype
  pub port_range_min : Holds f.port_range_min r.low
  pub port_range_max : Holds f.port_range_max r.high
  pub remote_group_id : Holds f.remote_group_id r.remote_group
  pub protocol : Holds f.protocol r.protocol
  pub remote_ip_prefix : Holds f.remote_ip_prefix r.remote_prefix

-- of ICMP by its number in version 6 the name is printed, which there means ICMPv6
abbrev pub is_numbered_icmp : RuleRow → Bool
is_numbered_icmp r = version_6_given (Is r.ethertype) && is_some_so (λ n. n == 1) r.protocol

pub record RuleAgain (f : RuleForm) (r : RuleRow) (g : RuleForm) : Type 0 where
  pub description : Again f.description g.description
  pub security_group_id : Again f.security_group_id g.security_group_id
  pub direction : Again f.direction g.direction
  pub ethertype : Again f.ethertype g.ethertype
  pub port_range_min : AgainOrNull f.port_range_min g.port_range_min
  pub port_range_max : AgainOrNull f.port_range_max g.port_range_max
  pub remote_group_id : AgainOrNull f.remote_group_id g.remote_group_id
  pub protocol : is_numbered_icmp r ≡ false → AgainOrNull f.protocol g.protocol
  pub remote_ip_prefix : AgainOrNull f.remote_ip_prefix g.remote_ip_prefix

-- the row has what the form gives
pub record IsRouterOf (f : RouterForm) (rows : RowLists) (r : RouterRow) : Type 0 where
  pub name : Has f.name r.name
  pub description : Has f.description r.description
  pub admin_state_up : Has f.admin_state_up r.up
  pub routes : Has f.routes r.routes
  pub project_id : Has f.project_id r.project
  pub tenant_id : Has f.tenant_id r.project

pub record RouterAgain (f g : RouterForm) : Type 0 where
  pub name : Again f.name g.name
  pub description : Again f.description g.description
  pub admin_state_up : Again f.admin_state_up g.admin_state_up
  pub routes : Again f.routes g.routes
  pub project_id : Again f.project_id g.project_id
  pub tenant_id : Again f.tenant_id g.tenant_id

-- the row has what the form gives
pub record IsFloatingOf (f : FloatingForm) (r : FloatingRow) : Type 0 where
  pub description : Has f.description r.description
  pub floating_network_id : Has f.floating_network_id r.network
  pub floating_ip_address : Has f.floating_ip_address r.address
  pub port_id : Holds f.port_id (option_map (λ (t : Target). t.port) r.target)
  pub fixed_ip_address : Holds f.fixed_ip_address (option_map (λ (t : Target). t.fixed) r.target)
  pub project_id : Has f.project_id r.project
  pub tenant_id : Has f.tenant_id r.project

pub record FloatingAgain (f g : FloatingForm) : Type 0 where
  pub description : Again f.description g.description
  pub floating_network_id : Again f.floating_network_id g.floating_network_id
  pub floating_ip_address : Again f.floating_ip_address g.floating_ip_address
  pub port_id : AgainOrNull f.port_id g.port_id
  pub fixed_ip_address : AgainOrNull f.fixed_ip_address g.fixed_ip_address
  pub project_id : Again f.project_id g.project_id
  pub tenant_id : Again f.tenant_id g.tenant_id

-- the row has what the form gives
pub record IsPolicyOf (f : PolicyForm) (r : PolicyRow) : Type 0 where
  pub object_type : Has f.object_type ObjectType.Network
  pub object_id : Has f.object_id r.object
  pub action : Has f.action r.action
  pub target_tenant : Has f.target_tenant r.target
  pub project_id : Has f.project_id r.project
  pub tenant_id : Has f.tenant_id r.project

pub record PolicyAgain (f g : PolicyForm) : Type 0 where
  pub object_type : Again f.object_type g.object_type
  pub object_id : Again f.object_id g.object_id
  pub action : Again f.action g.action
  pub target_tenant : Again f.target_tenant g.target_tenant
  pub project_id : Again f.project_id g.project_id
  pub tenant_id : Again f.tenant_id g.tenant_id
