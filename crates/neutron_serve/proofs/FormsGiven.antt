-- What bodies give as forms is in form: what is read of an object in which no attribute is bad, and none is missing where a row is created.
use Rattle.std.proofs.Common.{◌≡◌, ℕ, ◌<◌, Bool, true, not, List, [], Option, Some, None, refl, subst}
use Rattle.std.specs.List.{list_all}
use Rattle.std.specs.Prelude.{⊤, ◌&&◌, ◌^◌, codes, is_none, is_some, length, nat_le}
use Rattle.serde_json.specs.Data.{Data}
use Rattle.serde_json.specs.Find.{as_bool, as_object, get}
use Rattle.net_addr.specs.Macs.{is_unicast}
use Rattle.net_addr.specs.Prefixes.{IsPrefix}
use Rattle.api_types.specs.Consistent.InForm.{all_apart}
use Rattle.api_types.specs.Given.{value_or}
use Rattle.api_types.specs.Lists.{if_some, is_empty}
use Rattle.api_types.specs.declared.form.Form.{Form}
use Rattle.api_types.specs.declared.form.Given.{Given}
use Rattle.api_types.specs.declared.form.Given.TheVariants.{Absent, Is, Null}
use Rattle.api_types.specs.declared.kind.Kind.{Kind}
use Rattle.api_types.specs.declared.kind.Kind.TheVariants as kind
use Rattle.call_parts.specs.InForm.{IsTypedForm, are_owners, has_needed, if_value, is_cidr, is_form, is_hop, is_item, is_network_body, is_no_service, is_pair, is_port_body, is_router_body, is_subnet_body, not_null}
use Rattle.call_parts.specs.Typed.{IfGiven}
use Rattle.json_values.specs.Grammars.{action_of, address_pairs, device_owner, direction_of, fixed_addresses, group_ids, host_routes, ip_version, name_servers, object_type_of, pools, project_name, router_routes, segment_number, subnet_prefix, target_name}
use Rattle.json_values.specs.Items.{address_of, card_of, exact_of, fixed_of, hop_of, id_of, pair_of}
use Rattle.neutron_json.specs.Attributes.{Attribute, bad_among, first_missing, for_creation}
use Rattle.neutron_json.specs.Forms.{form_of, given, given_by, is_or_null, network_form, port_form, router_form, subnet_form}
use Rattle.neutron_json.specs.Tables.{attributes_of, floating_attributes, group_attributes, network_attributes, policy_attributes, port_attributes, router_attributes, rule_attributes, subnet_attributes}
use Rattle.neutron_serve.proofs.GoodMembers.{given_not_null, given_there, required_there, right_of}
use Rattle.neutron_serve.proofs.SaidValues.{card_so, card_typed, few_so, fixed_items, groups_few, host_routes_hop, kept_so, owner_no_service, pairs_so, pools_apart, pools_few, project_named, routes_few, routes_hop, segment_so, subnet_typed}

-- what is said passes, so what is given does
module _ {T : Type 0} (says : Data → Option T) where
  module _ (test : T → Bool) (so : (d : Data) → if_some test (says d) ≡ true) where
    value_so : (o : Option T) → if_some test o ≡ true → if_value test (is_or_null o) ≡ true
    value_so None h = refl
    value_so (Some x) h = h

    given_so : (o : Option Data) → if_value test (given_by says o) ≡ true
    given_so None = refl
    given_so (Some d) = value_so (says d) (so d)

  module _ (P : T → Type 0) (typed : (d : Data) (x : T) → says d ≡ Some x → P x) where
    value_typed : (o : Option T) → ((x : T) → o ≡ Some x → P x) → IfGiven P (is_or_null o)
    value_typed None h = tt
    value_typed (Some x) h = h x refl

    given_typed : (o : Option Data) → IfGiven P (given_by says o)
    given_typed None = tt
    given_typed (Some d) = value_typed (says d) (typed d)

-- where no pools are given, none overlap
pools_or_none : (g : Given (List _)) → if_value all_apart g ≡ true → all_apart (value_or [] g) ≡ true
pools_or_none Absent h = refl
pools_or_none Null h = refl
pools_or_none (Is pools) h = h

abbrev no_name_empty : List ℕ → Bool
no_name_empty name = not (is_empty name)

-- a form, where there is one, is in form
abbrev if_so : Option Form → Type 0
if_so None = ⊤
if_so (Some form) = is_form form ≡ true

-- kind by kind, of an object without bad attributes
module _ (edit : _) (d : Data) where
  -- owners, by the two rows of the table
  module _ (attributes : List Attribute) (none : bad_among edit attributes (as_object d) ≡ None)
      (project : not_null (given project_name d (codes "project_id")) ≡ true) (tenant : not_null (given project_name d (codes "tenant_id")) ≡ true) where
    owners_so : are_owners (given project_name d (codes "project_id")) (given project_name d (codes "tenant_id")) ≡ true
    owners_so = λ j. (project j && given_so project_name no_name_empty project_named (get (codes "project_id") d) j)
        && (tenant j && given_so project_name no_name_empty project_named (get (codes "tenant_id") d) j)

  network_so : bad_among edit network_attributes (as_object d) ≡ None → is_network_body (network_form d) ≡ true
  network_so none =
      let owners = owners_so network_attributes none
      (given_not_null edit network_attributes (codes "project_id") project_name (λ v. right_of _ (is_some (project_name v))) d none)
      (given_not_null edit network_attributes (codes "tenant_id") project_name (λ v. right_of _ (is_some (project_name v))) d none) in
      λ j. owners j && given_so segment_number (λ n. nat_le 1 n && nat_le n 16777215) segment_so (get (codes "provider:segmentation_id") d) j

  subnet_so : bad_among edit subnet_attributes (as_object d) ≡ None → is_subnet_body (subnet_form d) ≡ true
  subnet_so none =
      let pools_given = given_not_null edit subnet_attributes (codes "allocation_pools") pools (λ v. right_of _ (is_some (pools v))) d none in
      let servers = given_not_null edit subnet_attributes (codes "dns_nameservers") name_servers (λ v. right_of _ (is_some (name_servers v))) d none in
      let routes = given_not_null edit subnet_attributes (codes "host_routes") host_routes (λ v. right_of _ (is_some (host_routes v))) d none in
      let dhcp = given_not_null edit subnet_attributes (codes "enable_dhcp") as_bool (λ v. right_of _ (is_some (as_bool v))) d none in
      let cidr = given_so subnet_prefix is_cidr (λ v. kept_so is_cidr (exact_of v)) (get (codes "cidr") d) in
      let apart = pools_or_none (given pools d (codes "allocation_pools")) (given_so pools all_apart pools_apart (get (codes "allocation_pools") d)) in
      λ j. cidr j && apart j
      && (pools_given j && given_so pools (λ xs. nat_le (length xs) 20) pools_few (get (codes "allocation_pools") d) j)
      && (servers j && given_so name_servers (λ xs. nat_le (length xs) 5) (few_so 5 address_of) (get (codes "dns_nameservers") d) j)
      && (routes j && given_so host_routes (λ xs. nat_le (length xs) 20) (few_so 20 hop_of) (get (codes "host_routes") d) j)
      && given_so host_routes (list_all is_hop) host_routes_hop (get (codes "host_routes") d) j
      && dhcp j

  port_so : bad_among edit port_attributes (as_object d) ≡ None → is_port_body (port_form d) ≡ true
  port_so none =
      let owners = owners_so port_attributes none
      (given_not_null edit port_attributes (codes "project_id") project_name (λ v. right_of _ (is_some (project_name v))) d none)
      (given_not_null edit port_attributes (codes "tenant_id") project_name (λ v. right_of _ (is_some (project_name v))) d none) in
      let card = given_not_null edit port_attributes (codes "mac_address") card_of (λ v. right_of _ (is_some (card_of v))) d none in
      let fixed = given_not_null edit port_attributes (codes "fixed_ips") fixed_addresses (λ v. right_of _ (is_some (fixed_addresses v))) d none in
      let pairs = given_not_null edit port_attributes (codes "allowed_address_pairs") address_pairs (λ v. right_of _ (is_some (address_pairs v))) d none in
      let groups = given_not_null edit port_attributes (codes "security_groups") group_ids (λ v. right_of _ (is_some (group_ids v))) d none in
      λ j. owners j && card j && given_so card_of is_unicast card_so (get (codes "mac_address") d) j
      && (fixed j && given_so fixed_addresses (λ xs. nat_le (length xs) 5) (few_so 5 fixed_of) (get (codes "fixed_ips") d) j)
      && given_so fixed_addresses (list_all is_item) fixed_items (get (codes "fixed_ips") d) j
      && (pairs j && given_so address_pairs (λ xs. nat_le (length xs) 10) (few_so 10 pair_of) (get (codes "allowed_address_pairs") d) j)
      && given_so address_pairs (list_all is_pair) pairs_so (get (codes "allowed_address_pairs") d) j
      && (groups j && given_so group_ids (λ xs. nat_le (length xs) 20) groups_few (get (codes "security_groups") d) j)
      && given_so device_owner is_no_service owner_no_service (get (codes "device_owner") d) j

  router_so : bad_among edit router_attributes (as_object d) ≡ None → is_router_body (router_form d) ≡ true
  router_so none =
      let owners = owners_so router_attributes none
      (given_not_null edit router_attributes (codes "project_id") project_name (λ v. right_of _ (is_some (project_name v))) d none)
      (given_not_null edit router_attributes (codes "tenant_id") project_name (λ v. right_of _ (is_some (project_name v))) d none) in
      let routes = given_not_null edit router_attributes (codes "routes") router_routes (λ v. right_of _ (is_some (router_routes v))) d none in
      λ j. owners j && (routes j && given_so router_routes (λ xs. nat_le (length xs) 30) routes_few (get (codes "routes") d) j)
      && given_so router_routes (list_all is_hop) routes_hop (get (codes "routes") d) j

  group_so : bad_among edit group_attributes (as_object d) ≡ None → are_owners (given project_name d (codes "project_id")) (given project_name d (codes "tenant_id")) ≡ true
  group_so none = owners_so group_attributes none
      (given_not_null edit group_attributes (codes "project_id") project_name (λ v. right_of _ (is_some (project_name v))) d none)
      (given_not_null edit group_attributes (codes "tenant_id") project_name (λ v. right_of _ (is_some (project_name v))) d none)

  floating_so : bad_among edit floating_attributes (as_object d) ≡ None → are_owners (given project_name d (codes "project_id")) (given project_name d (codes "tenant_id")) ≡ true
  floating_so none = owners_so floating_attributes none
      (given_not_null edit floating_attributes (codes "project_id") project_name (λ v. right_of _ (is_some (project_name v))) d none)
      (given_not_null edit floating_attributes (codes "tenant_id") project_name (λ v. right_of _ (is_some (project_name v))) d none)

  policy_so : bad_among edit policy_attributes (as_object d) ≡ None → are_owners (given project_name d (codes "project_id")) (given project_name d (codes "tenant_id")) ≡ true
  policy_so none = owners_so policy_attributes none
      (given_not_null edit policy_attributes (codes "project_id") project_name (λ v. right_of _ (is_some (project_name v))) d none)
      (given_not_null edit policy_attributes (codes "tenant_id") project_name (λ v. right_of _ (is_some (project_name v))) d none)

  so_by : (k : Kind) → bad_among edit (attributes_of k) (as_object d) ≡ None → if_so (form_of k d)
  so_by kind.Project none = tt
  so_by kind.Network none = network_so none
  so_by kind.Subnet none = subnet_so none
  so_by kind.Port none = port_so none
  so_by kind.Group none = group_so none
  so_by kind.Rule none = refl
  so_by kind.Router none = router_so none
  so_by kind.Floating none = floating_so none
  so_by kind.Policy none = policy_so none

  pub form_so : (k : Kind) (form : Form) → bad_among edit (attributes_of k) (as_object d) ≡ None → form_of k d ≡ Some form → is_form form ≡ true
  form_so k form none is = subst if_so is (so_by k none)

-- what types say of a form
abbrev if_typed : Option Form → Type 0
if_typed None = ⊤
if_typed (Some form) = IsTypedForm form

typed_by : (d : Data) (k : Kind) → if_typed (form_of k d)
typed_by d kind.Project = tt
typed_by d kind.Network = tt
typed_by d kind.Subnet = given_typed subnet_prefix IsPrefix subnet_typed (get (codes "cidr") d)
typed_by d kind.Port = given_typed card_of (λ mac. mac < 2 ^ 48) card_typed (get (codes "mac_address") d)
typed_by d kind.Group = tt
typed_by d kind.Rule = tt
typed_by d kind.Router = tt
typed_by d kind.Floating = tt
typed_by d kind.Policy = tt

pub form_typed : (d : Data) (k : Kind) (form : Form) → form_of k d ≡ Some form → IsTypedForm form
form_typed d k form is = subst if_typed is (typed_by d k)

-- where nothing is missing, a new row has what it needs
module _ (d : Data) where
  abbrev if_needed : Option Form → Type 0
  if_needed None = ⊤
  if_needed (Some form) = has_needed form ≡ true

  needed_by : (k : Kind) → bad_among for_creation (attributes_of k) (as_object d) ≡ None → first_missing (attributes_of k) d ≡ None → if_needed (form_of k d)
  needed_by kind.Project none all = tt
  needed_by kind.Network none all = refl
  needed_by kind.Subnet none all =
      let cidr = required_there (is_none (get (codes "cidr") d)) (codes "cidr") _ all in
      let version = required_there (is_none (get (codes "ip_version") d)) (codes "ip_version") _ cidr.1 in
      let network = required_there (is_none (get (codes "network_id") d)) (codes "network_id") _ version.1 in
      λ j. given_there for_creation subnet_attributes (codes "network_id") id_of (λ v good. good) d none network.0 j
      && given_there for_creation subnet_attributes (codes "ip_version") ip_version (λ v good. good) d none version.0 j
      && given_there for_creation subnet_attributes (codes "cidr") subnet_prefix (λ v good. good) d none cidr.0 j
  needed_by kind.Port none all =
      let network = required_there (is_none (get (codes "network_id") d)) (codes "network_id") _ all in
      given_there for_creation port_attributes (codes "network_id") id_of (λ v good. good) d none network.0
  needed_by kind.Group none all = refl
  needed_by kind.Rule none all =
      let direction = required_there (is_none (get (codes "direction") d)) (codes "direction") _ all in
      let group = required_there (is_none (get (codes "security_group_id") d)) (codes "security_group_id") _ direction.1 in
      λ j. given_there for_creation rule_attributes (codes "security_group_id") id_of (λ v good. good) d none group.0 j
      && given_there for_creation rule_attributes (codes "direction") direction_of (λ v good. good) d none direction.0 j
  needed_by kind.Router none all = refl
  needed_by kind.Floating none all =
      let network = required_there (is_none (get (codes "floating_network_id") d)) (codes "floating_network_id") _ all in
      given_there for_creation floating_attributes (codes "floating_network_id") id_of (λ v good. good) d none network.0
  needed_by kind.Policy none all =
      let action = required_there (is_none (get (codes "action") d)) (codes "action") _ all in
      let object = required_there (is_none (get (codes "object_id") d)) (codes "object_id") _ action.1 in
      let type = required_there (is_none (get (codes "object_type") d)) (codes "object_type") _ object.1 in
      let target = required_there (is_none (get (codes "target_tenant") d)) (codes "target_tenant") _ type.1 in
      λ j. given_there for_creation policy_attributes (codes "object_type") object_type_of (λ v good. good) d none type.0 j
      && given_there for_creation policy_attributes (codes "object_id") id_of (λ v good. good) d none object.0 j
      && given_there for_creation policy_attributes (codes "action") action_of (λ v good. good) d none action.0 j
      && given_there for_creation policy_attributes (codes "target_tenant") target_name (λ v good. good) d none target.0 j

  pub form_needed : (k : Kind) (form : Form) → bad_among for_creation (attributes_of k) (as_object d) ≡ None → first_missing (attributes_of k) d ≡ None
      → form_of k d ≡ Some form → has_needed form ≡ true
  form_needed k form none all is = subst if_needed is (needed_by k none all)
