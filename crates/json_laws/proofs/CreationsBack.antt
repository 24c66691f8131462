-- What a creation's body gives, printed of the row and read again.
use Rattle.std.proofs.Common.{◌≡◌, ℕ, List, Option, Some, None, option_map, codes, refl, sym, ap, subst, ◌∙◌}
use Rattle.serde_json.specs.Data.{Data}
use Rattle.serde_json.specs.Data as json
use Rattle.serde_json.specs.Find.{as_bool, get}
use Rattle.api_types.specs.Printed.{Tree, number, truth, word}
use Rattle.api_types.specs.RowLists.{RowLists}
use Rattle.api_types.specs.declared.form.Given.TheVariants.{Is}
use Rattle.net_addr.specs.declared.address.Addr.{Addr}
use Rattle.net_addr.specs.declared.address.Addr.TheVariants.{V4, V6}
use Rattle.api_types.specs.declared.form.ObjectType.TheVariants as ObjectType
use Rattle.api_types.specs.declared.form.VnicType.TheVariants.{Normal}
use Rattle.api_types.specs.declared.floating.Target.{Target}
use Rattle.api_types.specs.declared.network.Segment.{Segment}
use Rattle.api_types.specs.declared.network.Segment.TheVariants.{Flat, Local, Vlan, Vxlan}
use Rattle.api_types.specs.declared.policy.Action.TheVariants.{Shared, External}
use Rattle.api_policy.specs.Trees as shown
use Rattle.api_policy.specs.Trees.{address_word, four_word, id_word, mac_word, prefix_word, route_object, span_object}
use Rattle.api_types.specs.declared.call.Caller.{Caller}
use Rattle.api_policy.specs.Networks.{is_open, network_members, number_of, physical_of, type_word}
use Rattle.api_policy.specs.Subnets.{mode_word, subnet_members, version_number}
use Rattle.api_policy.specs.Ports.{port_members}
use Rattle.api_policy.specs.Groups.{direction_word, ethertype_word, group_members, rule_members}
use Rattle.api_policy.specs.Routers.{router_members}
use Rattle.api_policy.specs.Floatings.{floating_members}
use Rattle.api_policy.specs.Policies.{action_word, policy_members}
use Rattle.json_trees.specs.Printed.{fields, tree_data}
use Rattle.json_values.specs.Items.{address_of, card_of, four_of, id_of, prefix_said}
use Rattle.json_laws.proofs.PrefixBack.{remotes}
use Rattle.json_laws.proofs.RuleProtocolBack.{protocol_again}
use Rattle.json_values.specs.Grammars.{action_of, device_owner, direction_of, ethertype_of, group_ids, group_name, host_routes, ip_version, mode_of, name_servers, network_type_of, object_type_of, pools, port_number, project_name, router_routes, segment_number, short_text, subnet_prefix, target_name, vnic_type_of}
use Rattle.neutron_json.specs.Forms.{given, given_by, is_or_null, network_form, subnet_form, port_form, group_form, rule_form, router_form, floating_form, policy_form}
use Rattle.json_laws.specs.ReadBack.{IsReadBack, type_name}
use Rattle.json_laws.specs.Creations.{Again, AgainOrNull, Has, Holds, segment_id, segment_physical, segment_type, IsNetworkOf, NetworkAgain, version_of, IsSubnetOf, SubnetAgain, IsPortOf, PortAgain, IsGroupOf, GroupAgain, IsRuleOf, RuleAgain, IsRouterOf, RouterAgain, IsFloatingOf, FloatingAgain, IsPolicyOf, PolicyAgain}
use Rattle.json_laws.proofs.TextsBack.{texts, group_names, owners, projects, targets, segments, ports, addresses, fours, macs, prefixes, ids}
use Rattle.json_laws.proofs.WordsBack.{flags, types, directions, ethertypes, actions, modes, version_digit, versions, cards, objects}
use Rattle.json_laws.proofs.ListsBack.{pools_back, servers_back, hosts_back, routes_back, groups_back}
use Rattle.api_types.specs.declared.network.NetworkRow.{NetworkRow}
use Rattle.api_types.specs.declared.subnet.SubnetRow.{SubnetRow}
use Rattle.api_types.specs.declared.port.PortRow.{PortRow}
use Rattle.api_types.specs.declared.group.GroupRow.{GroupRow}
use Rattle.api_types.specs.declared.group.RuleRow.{RuleRow}
use Rattle.api_types.specs.declared.router.RouterRow.{RouterRow}
use Rattle.api_types.specs.declared.floating.FloatingRow.{FloatingRow}
use Rattle.api_types.specs.declared.policy.PolicyRow.{PolicyRow}

module _ {T : Type 0} (says : Data → Option T) (print : T → Tree) (law : IsReadBack says print) where
  said_again : (v : Data) (o : Option T) (y : T) → says v ≡ o → Has (is_or_null o) y → Again (is_or_null o) (is_or_null (says (tree_data (print y))))
  said_again v None y is h = tt
  said_again v (Some x) y is h = ap is_or_null (law v y (is ∙ ap Some (sym h))) ∙ ap Is h

  again_by : (o : Option Data) (printed : Option Data) (y : T) → printed ≡ Some (tree_data (print y)) → Has (given_by says o) y → Again (given_by says o) (given_by says printed)
  again_by None printed y is h = tt
  again_by (Some v) printed y is h = subst (λ (p : Option Data). Again (is_or_null (says v)) (given_by says p)) (sym is) (said_again v (says v) y refl h)

  again : (d printed : Data) (name : List ℕ) (y : T) → get name printed ≡ Some (tree_data (print y)) → Has (given says d name) y → Again (given says d name) (given says printed name)
  again d printed name y is h = again_by (get name d) (get name printed) y is h

  module _ (none : says json.null ≡ None) where
    null_again : (v : Data) (o : Option T) (y : Option T) → says v ≡ o → Holds (is_or_null o) y → AgainOrNull (is_or_null o) (is_or_null (says (tree_data (shown.null_or print y))))
    null_again v None y is h = ap (λ (z : Option T). is_or_null (says (tree_data (shown.null_or print z)))) h ∙ ap is_or_null none
    null_again v (Some x) y is h = ap (λ (z : Option T). is_or_null (says (tree_data (shown.null_or print z)))) h ∙ ap is_or_null (law v x is)

    again_or_by : (o : Option Data) (printed : Option Data) (y : Option T) → printed ≡ Some (tree_data (shown.null_or print y)) → Holds (given_by says o) y → AgainOrNull (given_by says o) (given_by says printed)
    again_or_by None printed y is h = tt
    again_or_by (Some v) printed y is h = subst (λ (p : Option Data). AgainOrNull (is_or_null (says v)) (given_by says p)) (sym is) (null_again v (says v) y refl h)

    again_or : (d printed : Data) (name : List ℕ) (y : Option T) → get name printed ≡ Some (tree_data (shown.null_or print y)) → Holds (given says d name) y → AgainOrNull (given says d name) (given says printed name)
    again_or d printed name y is h = again_or_by (get name d) (get name printed) y is h

type_printed : (s : Segment) → Some (tree_data (word (type_word s))) ≡ Some (tree_data (word (type_name (segment_type s))))
type_printed Local = refl
type_printed (Flat physical) = refl
type_printed (Vlan physical tag) = refl
type_printed (Vxlan n) = refl

physical_printed : (s : Segment) → Some (tree_data (physical_of s)) ≡ Some (tree_data (shown.null_or word (segment_physical s)))
physical_printed Local = refl
physical_printed (Flat physical) = refl
physical_printed (Vlan physical tag) = refl
physical_printed (Vxlan n) = refl

number_printed : (s : Segment) → Some (tree_data (number_of s)) ≡ Some (tree_data (shown.null_or number (segment_id s)))
number_printed Local = refl
number_printed (Flat physical) = refl
number_printed (Vlan physical tag) = refl
number_printed (Vxlan n) = refl

version_printed : (x : Addr) → Some (tree_data (number (version_number x))) ≡ Some (tree_data (number (version_digit (version_of x))))
version_printed (V4 n) = refl
version_printed (V6 n) = refl

port_printed : (o : Option Target) → Some (tree_data (shown.null_or (λ (t : Target). id_word t.port) o)) ≡ Some (tree_data (shown.null_or id_word (option_map (λ (t : Target). t.port) o)))
port_printed None = refl
port_printed (Some t) = refl

fixed_printed : (o : Option Target) → Some (tree_data (shown.null_or (λ (t : Target). four_word t.fixed) o)) ≡ Some (tree_data (shown.null_or four_word (option_map (λ (t : Target). t.fixed) o)))
fixed_printed None = refl
fixed_printed (Some t) = refl

pub network_again : (d : Data) (rows : RowLists) (caller : Caller) (r : NetworkRow) → IsNetworkOf (network_form d) rows r → NetworkAgain (network_form d) (network_form (tree_data (fields (network_members rows caller r))))
network_again d rows caller r h = record {
  name = again short_text word texts d (tree_data (fields (network_members rows caller r))) (codes "name") r.name refl h.name;
  description = again short_text word texts d (tree_data (fields (network_members rows caller r))) (codes "description") r.description refl h.description;
  admin_state_up = again as_bool truth flags d (tree_data (fields (network_members rows caller r))) (codes "admin_state_up") r.up refl h.admin_state_up;
  shared = again as_bool truth flags d (tree_data (fields (network_members rows caller r))) (codes "shared") (is_open rows.policies r.id Shared) refl h.shared;
  router_external = again as_bool truth flags d (tree_data (fields (network_members rows caller r))) (codes "router:external") (is_open rows.policies r.id External) refl h.router_external;
  provider_network_type = again network_type_of (λ x. word (type_name x)) types d (tree_data (fields (network_members rows caller r))) (codes "provider:network_type") (segment_type r.segment) (type_printed r.segment) h.provider_network_type;
  provider_physical_network = again_or short_text word texts refl d (tree_data (fields (network_members rows caller r))) (codes "provider:physical_network") (segment_physical r.segment) (physical_printed r.segment) h.provider_physical_network;
  provider_segmentation_id = again_or segment_number number segments refl d (tree_data (fields (network_members rows caller r))) (codes "provider:segmentation_id") (segment_id r.segment) (number_printed r.segment) h.provider_segmentation_id;
  project_id = again project_name word projects d (tree_data (fields (network_members rows caller r))) (codes "project_id") r.project refl h.project_id;
  tenant_id = again project_name word projects d (tree_data (fields (network_members rows caller r))) (codes "tenant_id") r.project refl h.tenant_id;
}

pub subnet_again : (d : Data) (r : SubnetRow) → IsSubnetOf (subnet_form d) r → SubnetAgain (subnet_form d) (subnet_form (tree_data (fields (subnet_members r))))
subnet_again d r h = record {
  name = again short_text word texts d (tree_data (fields (subnet_members r))) (codes "name") r.name refl h.name;
  description = again short_text word texts d (tree_data (fields (subnet_members r))) (codes "description") r.description refl h.description;
  network_id = again id_of id_word ids d (tree_data (fields (subnet_members r))) (codes "network_id") r.network refl h.network_id;
  ip_version = again ip_version (λ v. number (version_digit v)) versions d (tree_data (fields (subnet_members r))) (codes "ip_version") (version_of r.prefix.base) (version_printed r.prefix.base) h.ip_version;
  ipv6_address_mode = again_or mode_of mode_word modes refl d (tree_data (fields (subnet_members r))) (codes "ipv6_address_mode") r.address_mode refl h.ipv6_address_mode;
  ipv6_ra_mode = again_or mode_of mode_word modes refl d (tree_data (fields (subnet_members r))) (codes "ipv6_ra_mode") r.ra_mode refl h.ipv6_ra_mode;
  cidr = again subnet_prefix prefix_word prefixes d (tree_data (fields (subnet_members r))) (codes "cidr") r.prefix refl h.cidr;
  gateway_ip = again_or address_of address_word addresses refl d (tree_data (fields (subnet_members r))) (codes "gateway_ip") r.gateway refl h.gateway_ip;
  allocation_pools = again pools (shown.list_of span_object) pools_back d (tree_data (fields (subnet_members r))) (codes "allocation_pools") r.pools refl h.allocation_pools;
  enable_dhcp = again as_bool truth flags d (tree_data (fields (subnet_members r))) (codes "enable_dhcp") r.dhcp refl h.enable_dhcp;
  dns_nameservers = again name_servers (shown.list_of address_word) servers_back d (tree_data (fields (subnet_members r))) (codes "dns_nameservers") r.dns refl h.dns_nameservers;
  host_routes = again host_routes (shown.list_of route_object) hosts_back d (tree_data (fields (subnet_members r))) (codes "host_routes") r.host_routes refl h.host_routes;
}

pub port_again : (d : Data) (rows : RowLists) (r : PortRow) → IsPortOf (port_form d) rows r → PortAgain (port_form d) (port_form (tree_data (fields (port_members rows r))))
port_again d rows r h = record {
  name = again short_text word texts d (tree_data (fields (port_members rows r))) (codes "name") r.name refl h.name;
  description = again short_text word texts d (tree_data (fields (port_members rows r))) (codes "description") r.description refl h.description;
  admin_state_up = again as_bool truth flags d (tree_data (fields (port_members rows r))) (codes "admin_state_up") r.up refl h.admin_state_up;
  network_id = again id_of id_word ids d (tree_data (fields (port_members rows r))) (codes "network_id") r.network refl h.network_id;
  mac_address = again card_of mac_word macs d (tree_data (fields (port_members rows r))) (codes "mac_address") r.mac refl h.mac_address;
  port_security_enabled = again as_bool truth flags d (tree_data (fields (port_members rows r))) (codes "port_security_enabled") r.secured refl h.port_security_enabled;
  security_groups = again group_ids (shown.list_of id_word) groups_back d (tree_data (fields (port_members rows r))) (codes "security_groups") r.groups refl h.security_groups;
  device_id = again short_text word texts d (tree_data (fields (port_members rows r))) (codes "device_id") r.device refl h.device_id;
  device_owner = again device_owner word owners d (tree_data (fields (port_members rows r))) (codes "device_owner") r.owner refl h.device_owner;
  binding_host_id = again short_text word texts d (tree_data (fields (port_members rows r))) (codes "binding:host_id") r.host refl h.binding_host_id;
  binding_vnic_type = again vnic_type_of (λ v. word (codes "normal")) cards d (tree_data (fields (port_members rows r))) (codes "binding:vnic_type") Normal refl h.binding_vnic_type;
  project_id = again project_name word projects d (tree_data (fields (port_members rows r))) (codes "project_id") r.project refl h.project_id;
  tenant_id = again project_name word projects d (tree_data (fields (port_members rows r))) (codes "tenant_id") r.project refl h.tenant_id;
}

pub group_again : (d : Data) (rows : RowLists) (r : GroupRow) → IsGroupOf (group_form d) rows r → GroupAgain (group_form d) (group_form (tree_data (fields (group_members rows r))))
group_again d rows r h = record {
  name = again group_name word group_names d (tree_data (fields (group_members rows r))) (codes "name") r.name refl h.name;
  description = again short_text word texts d (tree_data (fields (group_members rows r))) (codes "description") r.description refl h.description;
  project_id = again project_name word projects d (tree_data (fields (group_members rows r))) (codes "project_id") r.project refl h.project_id;
  tenant_id = again project_name word projects d (tree_data (fields (group_members rows r))) (codes "tenant_id") r.project refl h.tenant_id;
}

pub rule_again : (d : Data) (r : RuleRow) → IsRuleOf (rule_form d) r → RuleAgain (rule_form d) r (rule_form (tree_data (fields (rule_members r))))
rule_again d r h = record {
  description = again short_text word texts d (tree_data (fields (rule_members r))) (codes "description") r.description refl h.description;
  security_group_id = again id_of id_word ids d (tree_data (fields (rule_members r))) (codes "security_group_id") r.group refl h.security_group_id;
  direction = again direction_of (λ x. word (direction_word x)) directions d (tree_data (fields (rule_members r))) (codes "direction") r.direction refl h.direction;
  ethertype = again ethertype_of (λ x. word (ethertype_word x)) ethertypes d (tree_data (fields (rule_members r))) (codes "ethertype") r.ethertype refl h.ethertype;
  port_range_min = again_or port_number number ports refl d (tree_data (fields (rule_members r))) (codes "port_range_min") r.low refl h.port_range_min;
  port_range_max = again_or port_number number ports refl d (tree_data (fields (rule_members r))) (codes "port_range_max") r.high refl h.port_range_max;
  remote_group_id = again_or id_of id_word ids refl d (tree_data (fields (rule_members r))) (codes "remote_group_id") r.remote_group refl h.remote_group_id;
  protocol = protocol_again d r h.protocol;
  remote_ip_prefix = again_or prefix_said prefix_word remotes refl d (tree_data (fields (rule_members r))) (codes "remote_ip_prefix") r.remote_prefix refl h.remote_ip_prefix;
}

pub router_again : (d : Data) (rows : RowLists) (r : RouterRow) → IsRouterOf (router_form d) rows r → RouterAgain (router_form d) (router_form (tree_data (fields (router_members rows r))))
router_again d rows r h = record {
  name = again short_text word texts d (tree_data (fields (router_members rows r))) (codes "name") r.name refl h.name;
  description = again short_text word texts d (tree_data (fields (router_members rows r))) (codes "description") r.description refl h.description;
  admin_state_up = again as_bool truth flags d (tree_data (fields (router_members rows r))) (codes "admin_state_up") r.up refl h.admin_state_up;
  routes = again router_routes (shown.list_of route_object) routes_back d (tree_data (fields (router_members rows r))) (codes "routes") r.routes refl h.routes;
  project_id = again project_name word projects d (tree_data (fields (router_members rows r))) (codes "project_id") r.project refl h.project_id;
  tenant_id = again project_name word projects d (tree_data (fields (router_members rows r))) (codes "tenant_id") r.project refl h.tenant_id;
}

pub floating_again : (d : Data) (r : FloatingRow) → IsFloatingOf (floating_form d) r → FloatingAgain (floating_form d) (floating_form (tree_data (fields (floating_members r))))
floating_again d r h = record {
  description = again short_text word texts d (tree_data (fields (floating_members r))) (codes "description") r.description refl h.description;
  floating_network_id = again id_of id_word ids d (tree_data (fields (floating_members r))) (codes "floating_network_id") r.network refl h.floating_network_id;
  floating_ip_address = again four_of four_word fours d (tree_data (fields (floating_members r))) (codes "floating_ip_address") r.address refl h.floating_ip_address;
  port_id = again_or id_of id_word ids refl d (tree_data (fields (floating_members r))) (codes "port_id") (option_map (λ (t : Target). t.port) r.target) (port_printed r.target) h.port_id;
  fixed_ip_address = again_or four_of four_word fours refl d (tree_data (fields (floating_members r))) (codes "fixed_ip_address") (option_map (λ (t : Target). t.fixed) r.target) (fixed_printed r.target) h.fixed_ip_address;
  project_id = again project_name word projects d (tree_data (fields (floating_members r))) (codes "project_id") r.project refl h.project_id;
  tenant_id = again project_name word projects d (tree_data (fields (floating_members r))) (codes "tenant_id") r.project refl h.tenant_id;
}

pub policy_again : (d : Data) (r : PolicyRow) → IsPolicyOf (policy_form d) r → PolicyAgain (policy_form d) (policy_form (tree_data (fields (policy_members r))))
policy_again d r h = record {
  object_type = again object_type_of (λ v. word (codes "network")) objects d (tree_data (fields (policy_members r))) (codes "object_type") ObjectType.Network refl h.object_type;
  object_id = again id_of id_word ids d (tree_data (fields (policy_members r))) (codes "object_id") r.object refl h.object_id;
  action = again action_of (λ x. word (action_word x)) actions d (tree_data (fields (policy_members r))) (codes "action") r.action refl h.action;
  target_tenant = again target_name word targets d (tree_data (fields (policy_members r))) (codes "target_tenant") r.target refl h.target_tenant;
  project_id = again project_name word projects d (tree_data (fields (policy_members r))) (codes "project_id") r.project refl h.project_id;
  tenant_id = again project_name word projects d (tree_data (fields (policy_members r))) (codes "tenant_id") r.project refl h.tenant_id;
}
