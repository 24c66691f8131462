-- The attributes of an object as a form of its kind.
use Rattle.std.specs.Prelude.{ℕ, Bool, true, false, ◌&&◌, if◌then◌else◌, Option, Some, None, bytes_eq, codes, option_and_then}
use Rattle.net_addr.specs.Words.{Text}
use Rattle.serde_json.specs.Data.{Data}
use Rattle.serde_json.specs.Find.{as_bool, as_str, get}
use Rattle.api_types.specs.Lists.{is_some_so}
use Rattle.api_types.specs.declared.form.Form.{Form}
use Rattle.api_types.specs.declared.form.Form.TheVariants.{Network, Subnet, Port, Group, Rule, Router, Floating, Policy}
use Rattle.api_types.specs.declared.form.Given.{Given}
use Rattle.api_types.specs.declared.form.Given.TheVariants.{Absent, Null, Is}
use Rattle.api_types.specs.declared.form.NetworkForm.{NetworkForm}
use Rattle.api_types.specs.declared.form.SubnetForm.{SubnetForm}
use Rattle.api_types.specs.declared.form.PortForm.{PortForm}
use Rattle.api_types.specs.declared.form.GroupForm.{GroupForm}
use Rattle.api_types.specs.declared.form.RuleForm.{RuleForm}
use Rattle.api_types.specs.declared.form.RouterForm.{RouterForm}
use Rattle.api_types.specs.declared.form.FloatingForm.{FloatingForm}
use Rattle.api_types.specs.declared.form.PolicyForm.{PolicyForm}
use Rattle.api_types.specs.declared.group.Ethertype.{Ethertype}
use Rattle.api_types.specs.declared.group.Ethertype.TheVariants.{Ipv4, Ipv6}
use Rattle.api_types.specs.declared.kind.Kind.{Kind}
use Rattle.api_types.specs.declared.kind.Kind.TheVariants as kind
use Rattle.json_values.specs.Grammars.{action_of, address_pairs, device_owner, direction_of, ethertype_of, fixed_addresses, group_ids, group_name, host_routes, ip_version, mode_of, name_servers, network_type_of, object_type_of, pools, port_number, project_name, protocol_of, router_routes, segment_number, short_text, subnet_prefix, target_name, vnic_type_of}
use Rattle.json_values.specs.Items.{address_of, card_of, four_of, gateway_of, id_of, prefix_said}

abbrev pub is_or_null : {T : Type 0} → Option T → Given T
is_or_null None = Null
is_or_null (Some x) = Is x

abbrev pub given_by : {T : Type 0} → (Data → Option T) → Option Data → Given T
given_by says None = Absent
given_by says (Some d) = is_or_null (says d)

-- what an object says of an attribute: nothing, its value, or null. Of a value that is allowed and
-- isn't read, null is meant
abbrev pub given : {T : Type 0} → (Data → Option T) → Data → Text → Given T
given says d name = given_by says (get name d)

abbrev pub network_form : Data → NetworkForm
network_form d = record {
  name = given short_text d (codes "name");
  description = given short_text d (codes "description");
  admin_state_up = given as_bool d (codes "admin_state_up");
  shared = given as_bool d (codes "shared");
  router_external = given as_bool d (codes "router:external");
  provider_network_type = given network_type_of d (codes "provider:network_type");
  provider_physical_network = given short_text d (codes "provider:physical_network");
  provider_segmentation_id = given segment_number d (codes "provider:segmentation_id");
  project_id = given project_name d (codes "project_id");
  tenant_id = given project_name d (codes "tenant_id");
}

abbrev pub subnet_form : Data → SubnetForm
subnet_form d = record {
  name = given short_text d (codes "name");
  description = given short_text d (codes "description");
  network_id = given id_of d (codes "network_id");
  ip_version = given ip_version d (codes "ip_version");
  ipv6_address_mode = given mode_of d (codes "ipv6_address_mode");
  ipv6_ra_mode = given mode_of d (codes "ipv6_ra_mode");
  cidr = given subnet_prefix d (codes "cidr");
  gateway_ip = given address_of d (codes "gateway_ip");
  allocation_pools = given pools d (codes "allocation_pools");
  enable_dhcp = given as_bool d (codes "enable_dhcp");
  dns_nameservers = given name_servers d (codes "dns_nameservers");
  host_routes = given host_routes d (codes "host_routes");
}

abbrev pub port_form : Data → PortForm
port_form d = record {
  name = given short_text d (codes "name");
  description = given short_text d (codes "description");
  admin_state_up = given as_bool d (codes "admin_state_up");
  network_id = given id_of d (codes "network_id");
  mac_address = given card_of d (codes "mac_address");
  fixed_ips = given fixed_addresses d (codes "fixed_ips");
  allowed_address_pairs = given address_pairs d (codes "allowed_address_pairs");
  port_security_enabled = given as_bool d (codes "port_security_enabled");
  security_groups = given group_ids d (codes "security_groups");
  device_id = given short_text d (codes "device_id");
  device_owner = given device_owner d (codes "device_owner");
  binding_host_id = given short_text d (codes "binding:host_id");
  binding_vnic_type = given vnic_type_of d (codes "binding:vnic_type");
  project_id = given project_name d (codes "project_id");
  tenant_id = given project_name d (codes "tenant_id");
}

abbrev pub group_form : Data → GroupForm
group_form d = record {
  name = given group_name d (codes "name");
  description = given short_text d (codes "description");
  project_id = given project_name d (codes "project_id");
  tenant_id = given project_name d (codes "tenant_id");
}

-- a rule has the protocol `icmp` by that name, and is of version 6
abbrev pub icmp_named : Data → Bool
icmp_named d =
    is_some_so (bytes_eq (codes "icmp")) (option_and_then as_str (get (codes "protocol") d))

abbrev pub version_6_given : Given Ethertype → Bool
version_6_given Absent = false
version_6_given Null = false
version_6_given (Is Ipv4) = false
version_6_given (Is Ipv6) = true

-- there the name means ICMPv6; the number 1 stays 1 (Networking API v2.0, security group rules)
abbrev pub protocol_given : Given Ethertype → Data → Given ℕ
protocol_given ethertype d =
    if version_6_given ethertype && icmp_named d then Is 58
    else given protocol_of d (codes "protocol")

abbrev pub rule_form : Data → RuleForm
rule_form d = record {
  description = given short_text d (codes "description");
  security_group_id = given id_of d (codes "security_group_id");
  direction = given direction_of d (codes "direction");
  ethertype = given ethertype_of d (codes "ethertype");
  protocol = protocol_given (given ethertype_of d (codes "ethertype")) d;
  port_range_min = given port_number d (codes "port_range_min");
  port_range_max = given port_number d (codes "port_range_max");
  remote_ip_prefix = given prefix_said d (codes "remote_ip_prefix");
  remote_group_id = given id_of d (codes "remote_group_id");
}

abbrev pub router_form : Data → RouterForm
router_form d = record {
  name = given short_text d (codes "name");
  description = given short_text d (codes "description");
  admin_state_up = given as_bool d (codes "admin_state_up");
  external_gateway_info = given gateway_of d (codes "external_gateway_info");
  routes = given router_routes d (codes "routes");
  project_id = given project_name d (codes "project_id");
  tenant_id = given project_name d (codes "tenant_id");
}

abbrev pub floating_form : Data → FloatingForm
floating_form d = record {
  description = given short_text d (codes "description");
  floating_network_id = given id_of d (codes "floating_network_id");
  floating_ip_address = given four_of d (codes "floating_ip_address");
  port_id = given id_of d (codes "port_id");
  fixed_ip_address = given four_of d (codes "fixed_ip_address");
  project_id = given project_name d (codes "project_id");
  tenant_id = given project_name d (codes "tenant_id");
}

abbrev pub policy_form : Data → PolicyForm
policy_form d = record {
  object_type = given object_type_of d (codes "object_type");
  object_id = given id_of d (codes "object_id");
  action = given action_of d (codes "action");
  target_tenant = given target_name d (codes "target_tenant");
  project_id = given project_name d (codes "project_id");
  tenant_id = given project_name d (codes "tenant_id");
}

-- the form of a kind; projects have none
abbrev pub form_of : Kind → Data → Option Form
form_of kind.Project d = None
form_of kind.Network d = Some (Network (network_form d))
form_of kind.Subnet d = Some (Subnet (subnet_form d))
form_of kind.Port d = Some (Port (port_form d))
form_of kind.Group d = Some (Group (group_form d))
form_of kind.Rule d = Some (Rule (rule_form d))
form_of kind.Router d = Some (Router (router_form d))
form_of kind.Floating d = Some (Floating (floating_form d))
form_of kind.Policy d = Some (Policy (policy_form d))
