-- What calls on ports come to (Networking API v2.0, ports; extended attributes of bindings and
-- port security).
use Rattle.api_policy.specs.Marked.{is_marked}
use Rattle.call_parts.specs.BodyNames.{text_of, unless_all}
use Rattle.call_parts.specs.Edits.{Add, Drop, Edit, Put, accepted}
use Rattle.api_ipam.specs.FixedChoice.{first_addresses, first_known, named_subnets, next_addresses, next_known, old_renewed}
use Rattle.api_types.specs.HeldAddresses.{address_taken, is_address_held, is_held_by_other, is_mac_held, is_mac_of_other, subnets_on}
use Rattle.call_parts.specs.Leaving.{disassociations}
use Rattle.api_ipam.specs.MacChoice.{expected_mac, mac_for}
use Rattle.api_policy.specs.Permits.{admin_only, network_access, network_owner, owner_only, port_delete}
use Rattle.api_policy.specs.Quotas.{over_quota}
use Rattle.plan_ports.specs.PortRules.{bad_bare, bad_fixed, is_subnet_seen}
use Rattle.api_policy.specs.Seen.{group_seen, network_seen, port_seen}
use Rattle.api_policy.specs.Uses.{service_in_use}
use Rattle.api_policy.specs.Ports.{port_members}
use Rattle.api_policy.specs.Shown.{shown_as}
use Rattle.api_ml2.specs.Binding.{bound}
use Rattle.api_types.specs.Given.{are_unlike, is_given, owner_of, value_of, value_or}
use Rattle.api_types.specs.Refusing.{first_refusal, needing, not_found, unless, when}
use Rattle.call_parts.specs.State.{State, drawing_at, is_last}
use Rattle.api_types.specs.Consistent.Groups.{is_default_of}
use Rattle.api_types.specs.Ident.{Ident}
use Rattle.api_types.specs.Lists.{is_some_so}
use Rattle.api_types.specs.Outcome.{Outcome}
use Rattle.api_types.specs.Printed.{NewRow, NoRow, OneRow, ShownRow}
use Rattle.api_types.specs.Registration.{drawn_id}
use Rattle.api_types.specs.RowLists.{RowLists}
use Rattle.api_types.specs.Table.{row_of}
use Rattle.api_types.specs.declared.call.Caller.{Caller}
use Rattle.api_types.specs.declared.call.IdText.{IdText}
use Rattle.api_types.specs.declared.floating.FloatingRow.{FloatingRow}
use Rattle.api_types.specs.declared.form.FixedAsked.{FixedAsked}
use Rattle.api_types.specs.declared.form.Given.TheVariants.{Absent, Is, Null}
use Rattle.api_types.specs.declared.form.Given.{Given}
use Rattle.api_types.specs.declared.form.PairAsked.{PairAsked}
use Rattle.api_types.specs.declared.form.PortForm.{PortForm}
use Rattle.api_types.specs.declared.group.GroupRow.{GroupRow}
use Rattle.api_types.specs.declared.kind.Kind.TheVariants.{Network as NetworkKind, Subnet as SubnetKind, Port as PortKind, Group as GroupKind}
use Rattle.api_types.specs.declared.kind.Row.TheVariants.{Port}
use Rattle.api_types.specs.declared.network.NetworkRow.{NetworkRow}
use Rattle.api_types.specs.declared.port.Fixed.{Fixed}
use Rattle.api_types.specs.declared.port.Pair.{Pair}
use Rattle.api_types.specs.declared.port.PortRow.{PortRow}
use Rattle.api_types.specs.declared.port.Vif.{Vif}
use Rattle.api_types.specs.declared.refusal.Refusal.TheVariants.{CountersSpent, Invalid, PoolsSpent, Taken}
use Rattle.api_types.specs.declared.refusal.Refusal.{Refusal}
use Rattle.api_types.specs.declared.refusal.Value.TheVariants.{Mac as MacValue}
use Rattle.api_types.specs.declared.subnet.SubnetRow.{SubnetRow}
use Rattle.net_addr.specs.declared.address.Addr.{Addr}
use Rattle.net_settings.specs.Settings.{SettingsParts}
use Rattle.std.specs.Prelude.{Bool, List, None, Option, Some, [], bytes_eq, codes, false, find, map, not, option_and_then, true, unwrap_or, ◌++◌, ◌||◌, ◌∷◌}
use Rattle.net_addr.specs.Words.{MacAddress, Text}
use Rattle.api_policy.specs.Reserved.{port_for_admin, port_for_owner}

abbrev pub port_shown : RowLists → Caller → PortRow → List Text → ShownRow
port_shown rows caller p fields = shown_as PortKind caller.admin fields (port_members rows p)

-- the rules on what a body gives

abbrev pub items_of : PortForm → List FixedAsked
items_of form = value_or [] form.fixed_ips

-- the group is there, is seen, and is of the port's project
abbrev pub is_group_for : RowLists → Caller → Text → Ident → Bool
is_group_for rows caller project i =
    is_some_so (λ (g : GroupRow). bytes_eq g.project project) (group_seen rows caller (Some i))

-- a named MAC address is held, or before it an address that is known, by which are held
abbrev pub mac_taken : (MacAddress → Bool) → Ident → Option MacAddress → Option Refusal
mac_taken held network None = None
mac_taken held network (Some mac) = when (held mac) (Taken (MacValue mac) network)

abbrev pub values_taken : (Addr → Bool) → (MacAddress → Bool) → Ident → List Addr → PortForm
    → Option Refusal
values_taken held mac_held network known form = first_refusal (
    address_taken held network known
    ∷ mac_taken mac_held network (value_of form.mac_address)
    ∷ [])

-- a pair without a MAC address has the port's
abbrev pub pair_of : MacAddress → PairAsked → Pair
pair_of mac asked = record { mac = unwrap_or asked.mac mac; prefix = asked.prefix }

-- making a port

abbrev pub ids_of : Option GroupRow → List Ident
ids_of None = []
ids_of (Some g) = g.id ∷ []

-- where no groups are named, the default group of the project, where the port is filtered
abbrev pub groups_at_first : List GroupRow → Text → Bool → Given (List Ident) → List Ident
groups_at_first groups project secured (Is named) = named
groups_at_first groups project false _ = []
groups_at_first groups project true _ = ids_of (find (is_default_of project) groups)

abbrev pub new_port : SettingsParts → RowLists → Caller → PortForm → NetworkRow → Text → Ident
    → MacAddress → List Fixed → PortRow
new_port settings rows caller form n owner i mac fixed = record {
  id = i;
  project = owner;
  network = n.id;
  name = value_or [] form.name;
  description = value_or [] form.description;
  up = value_or true form.admin_state_up;
  mac = mac;
  fixed = fixed;
  pairs = map (pair_of mac) (value_or [] form.allowed_address_pairs);
  secured = value_or true form.port_security_enabled;
  groups = groups_at_first rows.groups owner (value_or true form.port_security_enabled)
      form.security_groups;
  device = value_or [] form.device_id;
  owner = value_or [] form.device_owner;
  host = value_or [] form.binding_host_id;
  vif = bound settings n.segment (value_or [] form.binding_host_id);
  by_admin = is_marked rows caller owner n;
}

-- the MAC address that a new port will have
abbrev pub mac_at_first : List PortRow → PortForm → Ident → MacAddress
mac_at_first ports form network = expected_mac (mac_for ports network form.mac_address)

-- the rule of `fixed_ips` of a new port
abbrev pub bad_first_fixed : RowLists → Caller → PortForm → NetworkRow → Option Refusal
bad_first_fixed rows caller form n =
    bad_fixed rows caller (subnets_on rows.subnets n.id) (mac_at_first rows.ports form n.id) []
    (items_of form)

-- what is refused of a body before its network is looked for
abbrev pub body_refusal : RowLists → Caller → PortForm → Option Refusal
body_refusal rows caller form = first_refusal (
    when (are_unlike form.project_id form.tenant_id) (Invalid (codes "tenant_id"))
    ∷ option_and_then (bad_first_fixed rows caller form)
    (network_seen rows caller (value_of form.network_id))
    ∷ bad_bare (value_or true form.port_security_enabled) (value_or [] form.security_groups)
    (value_or [] form.allowed_address_pairs)
    ∷ unless_all SubnetKind (is_subnet_seen rows caller) (named_subnets (items_of form))
    ∷ [])

abbrev pub creation_refusal : SettingsParts → RowLists → Caller → PortForm → NetworkRow → Text
    → Option Refusal
creation_refusal settings rows caller form n owner = first_refusal (
    unless_all GroupKind (is_group_for rows caller owner) (value_or [] form.security_groups)
    ∷ admin_only caller (port_for_admin caller form)
    ∷ network_owner rows caller (port_for_owner form) n.id
    ∷ network_access rows caller n.id
    ∷ values_taken (is_address_held rows.ports n.id) (is_mac_held rows.ports n.id) n.id
    (first_known (subnets_on rows.subnets n.id) (mac_at_first rows.ports form n.id) form.fixed_ips)
    form
    ∷ over_quota settings rows owner PortKind
    ∷ [])

abbrev pub port_added : Caller → RowLists → PortRow → Outcome
port_added caller rows p =
    accepted rows (Add (Port p) ∷ []) (λ after. NewRow (port_shown after caller p []))

abbrev pub addresses_at_first : RowLists → PortForm → Ident → Option (List Fixed)
addresses_at_first rows form network =
    first_addresses (λ x. not (is_address_held rows.ports network x))
    (subnets_on rows.subnets network) (mac_at_first rows.ports form network) form.fixed_ips

abbrev pub port_made : SettingsParts → State → Caller → PortForm → NetworkRow → Text → Outcome
port_made settings state caller form n owner =
    unless (creation_refusal settings state.rows caller form n owner)
    (needing (PoolsSpent n.id) (addresses_at_first state.rows form n.id) (λ fixed.
    needing CountersSpent (mac_for state.rows.ports n.id form.mac_address) (λ mac.
    needing CountersSpent (drawing_at state owner 1) (λ drawing.
    port_added caller drawing.rows
    (new_port settings drawing.rows caller form n owner (drawn_id drawing 0) mac fixed)))))

abbrev pub port_created : SettingsParts → State → Caller → PortForm → Outcome
port_created settings state caller form =
    unless (body_refusal state.rows caller form)
    (needing (not_found NetworkKind (text_of (value_of form.network_id)))
    (network_seen state.rows caller (value_of form.network_id)) (λ n.
    port_made settings state caller form n (owner_of caller form.project_id form.tenant_id)))

-- changing a port

-- a service's port is changed in name and description alone
abbrev pub changes_service : PortForm → Bool
changes_service form =
    is_given form.admin_state_up || is_given form.mac_address || is_given form.fixed_ips
    || is_given form.allowed_address_pairs
    || is_given form.port_security_enabled || is_given form.security_groups
    || is_given form.device_id || is_given form.device_owner
    || is_given form.binding_host_id || is_given form.binding_vnic_type

-- the MAC address that a changed port will have
abbrev pub mac_after : PortForm → PortRow → MacAddress
mac_after form p = value_or p.mac form.mac_address

abbrev pub vif_after : SettingsParts → NetworkRow → Given Text → Vif → Vif
vif_after settings n Absent old = old
vif_after settings n Null old = old
vif_after settings n (Is host) old = bound settings n.segment host

abbrev pub pairs_after : MacAddress → Given (List PairAsked) → List Pair → List Pair
pairs_after mac Absent old = old
pairs_after mac Null old = old
pairs_after mac (Is asked) old = map (pair_of mac) asked

abbrev pub changed_port : SettingsParts → PortForm → NetworkRow → PortRow → List Fixed → PortRow
changed_port settings form n p fixed = record p {
  name = value_or p.name form.name;
  description = value_or p.description form.description;
  up = value_or p.up form.admin_state_up;
  mac = mac_after form p;
  fixed = fixed;
  pairs = pairs_after (mac_after form p) form.allowed_address_pairs p.pairs;
  secured = value_or p.secured form.port_security_enabled;
  groups = value_or p.groups form.security_groups;
  device = value_or p.device form.device_id;
  owner = value_or p.owner form.device_owner;
  host = value_or p.host form.binding_host_id;
  vif = vif_after settings n form.binding_host_id p.vif;
}

-- `security_groups` and the pairs as they would stand; only whether there are any matters
abbrev pub bad_bare_after : PortForm → PortRow → Option Refusal
bad_bare_after form p =
    bad_bare (value_or p.secured form.port_security_enabled)
    (value_or p.groups form.security_groups) (pairs_after p.mac form.allowed_address_pairs p.pairs)

-- its addresses
abbrev pub addresses_after : RowLists → PortForm → PortRow → Option (List Fixed)
addresses_after rows form p =
    next_addresses (λ x. not (is_held_by_other rows.ports p x)) (subnets_on rows.subnets p.network)
    p (mac_after form p) form.fixed_ips

abbrev pub bad_next_fixed : RowLists → Caller → PortForm → PortRow → List SubnetRow
    → Option Refusal
bad_next_fixed rows caller form p subnets =
    bad_fixed rows caller subnets (mac_after form p) (old_renewed subnets p (mac_after form p))
    (items_of form)

abbrev pub update_refusal : RowLists → Caller → PortForm → PortRow → Option Refusal
update_refusal rows caller form p = first_refusal (
    bad_next_fixed rows caller form p (subnets_on rows.subnets p.network)
    ∷ bad_bare_after form p
    ∷ unless_all SubnetKind (is_subnet_seen rows caller) (named_subnets (items_of form))
    ∷ unless_all GroupKind (is_group_for rows caller p.project) (value_or [] form.security_groups)
    ∷ admin_only caller (port_for_admin caller form)
    ∷ owner_only caller p.project
    ∷ network_owner rows caller (port_for_owner form) p.network
    ∷ service_in_use rows caller (changes_service form) p
    ∷ values_taken (is_held_by_other rows.ports p) (is_mac_of_other rows.ports p) p.network
    (next_known (subnets_on rows.subnets p.network) p (mac_after form p) form.fixed_ips) form
    ∷ [])

-- floating addresses of addresses that it holds no more are disassociated
abbrev pub port_edits : List FloatingRow → PortRow → List Edit
port_edits floatings p = Put (Port p) ∷ disassociations floatings p.id p.fixed

abbrev pub port_replaced : Caller → RowLists → PortRow → Outcome
port_replaced caller rows p =
    accepted rows (port_edits rows.floatings p) (λ after. OneRow (port_shown after caller p []))

abbrev pub port_changed : SettingsParts → State → Caller → PortForm → NetworkRow → PortRow
    → Outcome
port_changed settings state caller form n p =
    unless (update_refusal state.rows caller form p)
    (needing (PoolsSpent p.network) (addresses_after state.rows form p) (λ fixed.
    unless (when (is_last state) CountersSpent)
    (port_replaced caller state.rows (changed_port settings form n p fixed))))

abbrev pub port_updated : SettingsParts → State → Caller → IdText → PortForm → Outcome
port_updated settings state caller name form =
    needing (not_found PortKind name.text) (port_seen state.rows caller name.id) (λ p.
    needing (not_found PortKind name.text) (row_of (λ n. n.id) p.network state.rows.networks) (λ n.
    port_changed settings state caller form n p))

-- taking a port out

abbrev pub deletion_refusal : State → Caller → PortRow → Option Refusal
deletion_refusal state caller p = first_refusal (
    port_delete state.rows caller p
    ∷ service_in_use state.rows caller true p
    ∷ when (is_last state) CountersSpent
    ∷ [])

abbrev pub port_gone : List FloatingRow → Ident → List Edit
port_gone floatings i = disassociations floatings i [] ++ Drop PortKind i ∷ []

abbrev pub port_deleted : State → Caller → IdText → Outcome
port_deleted state caller name =
    needing (not_found PortKind name.text) (port_seen state.rows caller name.id) (λ p.
    unless (deletion_refusal state caller p)
    (accepted state.rows (port_gone state.rows.floatings p.id) (λ rows. NoRow)))
