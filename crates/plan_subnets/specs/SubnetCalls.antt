-- What calls on subnets come to (Networking API v2.0, subnets).
use Rattle.api_ipam.specs.Addresses.{default_gateway, default_pools}
use Rattle.call_parts.specs.BodyNames.{no_id, text_of}
use Rattle.plan_subnets.specs.DhcpUpkeep.{begin_serving, dhcp_address, end_serving, makes_dhcp_port}
use Rattle.call_parts.specs.Edits.{Add, Drop, Edit, Put, accepted}
use Rattle.api_types.specs.HeldAddresses.{fixed_at}
use Rattle.api_ipam.specs.MacChoice.{mac_if}
use Rattle.api_policy.specs.Permits.{network_owner}
use Rattle.api_policy.specs.Quotas.{over_quota}
use Rattle.plan_subnets.specs.SubnetRules.{bad_cidr, bad_dhcp, bad_parts, bad_subnet, bad_versions}
use Rattle.api_policy.specs.Seen.{network_seen, subnet_seen}
use Rattle.api_policy.specs.Uses.{old_gateway_in_use, subnet_in_use}
use Rattle.api_policy.specs.Shown.{shown_as}
use Rattle.api_policy.specs.Subnets.{subnet_members}
use Rattle.api_types.specs.Given.{value_of, value_or}
use Rattle.api_types.specs.Refusing.{first_refusal, needing, not_found, unless, when}
use Rattle.call_parts.specs.State.{State, drawing_at, is_last}
use Rattle.api_types.specs.Ident.{Ident}
use Rattle.api_types.specs.Outcome.{Outcome}
use Rattle.api_types.specs.Printed.{NewRow, NoRow, OneRow, ShownRow}
use Rattle.api_types.specs.Registration.{Drawing, drawn_id}
use Rattle.api_types.specs.RowLists.{RowLists}
use Rattle.api_types.specs.Table.{row_of}
use Rattle.api_types.specs.declared.call.Caller.{Caller}
use Rattle.api_types.specs.declared.call.IdText.{IdText}
use Rattle.api_types.specs.declared.form.Given.TheVariants.{Absent, Is, Null}
use Rattle.api_types.specs.declared.form.Given.{Given}
use Rattle.api_types.specs.declared.form.SubnetForm.{SubnetForm}
use Rattle.api_types.specs.declared.kind.Kind.TheVariants.{Network as NetworkKind, Subnet as SubnetKind}
use Rattle.api_types.specs.declared.kind.Row.TheVariants.{Subnet}
use Rattle.api_types.specs.declared.network.NetworkRow.{NetworkRow}
use Rattle.api_types.specs.declared.port.Fixed.{Fixed}
use Rattle.api_types.specs.declared.refusal.Refusal.TheVariants.{CountersSpent, PoolsSpent}
use Rattle.api_types.specs.declared.refusal.Refusal.{Refusal}
use Rattle.api_types.specs.declared.subnet.SubnetRow.{SubnetRow}
use Rattle.net_addr.specs.Prefixes.{Prefix, Span}
use Rattle.net_addr.specs.declared.address.Addr.TheVariants.{V4}
use Rattle.net_addr.specs.declared.address.Addr.{Addr}
use Rattle.net_settings.specs.Settings.{SettingsParts}
use Rattle.std.specs.Prelude.{Bool, List, None, Option, Some, [], if◌then◌else◌, not, option_and_then, true, ◌&&◌, ◌++◌, ◌∷◌}
use Rattle.net_addr.specs.Words.{MacAddress, Text}

abbrev pub subnet_shown : RowLists → Caller → SubnetRow → List Text → ShownRow
subnet_shown rows caller s fields = shown_as SubnetKind caller.admin fields (subnet_members s)

-- the gateway and the pools as they would stand

abbrev pub gateway_or : Option Addr → Given Addr → Option Addr
gateway_or old Absent = old
gateway_or old Null = None
gateway_or old (Is x) = Some x

-- making a subnet

-- a body always names a prefix
abbrev pub prefix_asked : SubnetForm → Prefix
prefix_asked form = value_or (record { base = V4 0; len = 1 }) form.cidr

abbrev pub gateway_asked : SubnetForm → Option Addr
gateway_asked form = gateway_or (Some (default_gateway (prefix_asked form))) form.gateway_ip

-- the default pools leave out the gateway
abbrev pub pools_asked : SubnetForm → List Span
pools_asked form =
    value_or (default_pools (prefix_asked form) (gateway_asked form)) form.allocation_pools

abbrev pub dhcp_asked : SubnetForm → Bool
dhcp_asked form = value_or true form.enable_dhcp

abbrev pub new_subnet : SubnetForm → NetworkRow → Ident → SubnetRow
new_subnet form n i = record {
  id = i;
  project = n.project;
  network = n.id;
  name = value_or [] form.name;
  description = value_or [] form.description;
  prefix = prefix_asked form;
  gateway = gateway_asked form;
  pools = pools_asked form;
  dhcp = dhcp_asked form;
  address_mode = value_of form.ipv6_address_mode;
  ra_mode = value_of form.ipv6_ra_mode;
  dns = value_or [] form.dns_nameservers;
  host_routes = value_or [] form.host_routes;
}

abbrev pub creation_refusal : SettingsParts → RowLists → Caller → NetworkRow → Option Refusal
creation_refusal settings rows caller n = first_refusal (
    network_owner rows caller true n.id
    ∷ over_quota settings rows n.project SubnetKind
    ∷ [])

-- the DHCP port holds the address; its id is drawn after the subnet's
abbrev pub subnet_added : SettingsParts → Caller → Drawing → NetworkRow → SubnetRow → Addr
    → MacAddress → Outcome
subnet_added settings caller drawing n s x mac =
    accepted drawing.rows
    (Add (Subnet s)
    ∷ begin_serving settings drawing.rows n s.dhcp (drawn_id drawing 1) mac (fixed_at s.id x))
    (λ rows. NewRow (subnet_shown rows caller s []))

-- `makes` tells whether a DHCP port comes along
abbrev pub subnet_made : SettingsParts → State → Caller → SubnetForm → NetworkRow → Bool → Outcome
subnet_made settings state caller form n makes =
    unless (creation_refusal settings state.rows caller n)
    (needing (PoolsSpent n.id)
    (dhcp_address state.rows.ports n.id (dhcp_asked form) (new_subnet form n no_id)) (λ x.
    needing CountersSpent (mac_if makes state.rows.ports n.id) (λ mac.
    needing CountersSpent (drawing_at state n.project (if makes then 2 else 1)) (λ drawing.
    subnet_added settings caller drawing n (new_subnet form n (drawn_id drawing 0)) x mac))))

abbrev pub subnet_created : SettingsParts → State → Caller → SubnetForm → Outcome
subnet_created settings state caller form =
    unless (bad_parts form)
    (unless (option_and_then (bad_cidr state.rows (prefix_asked form))
    (network_seen state.rows caller (value_of form.network_id)))
    (unless (bad_subnet (prefix_asked form) (gateway_asked form) (pools_asked form))
    (needing (not_found NetworkKind (text_of (value_of form.network_id)))
    (network_seen state.rows caller (value_of form.network_id)) (λ n.
    subnet_made settings state caller form n
    (makes_dhcp_port state.rows.ports n.id (dhcp_asked form))))))

-- changing a subnet

abbrev pub changed_subnet : SubnetForm → SubnetRow → SubnetRow
changed_subnet form s = record s {
  name = value_or s.name form.name;
  description = value_or s.description form.description;
  gateway = gateway_or s.gateway form.gateway_ip;
  pools = value_or s.pools form.allocation_pools;
  dhcp = value_or s.dhcp form.enable_dhcp;
  dns = value_or s.dns form.dns_nameservers;
  host_routes = value_or s.host_routes form.host_routes;
}

abbrev pub update_refusal : RowLists → Caller → SubnetForm → SubnetRow → SubnetRow → Option Refusal
update_refusal rows caller form old new = first_refusal (
    bad_versions old.prefix.base form
    ∷ bad_subnet new.prefix new.gateway new.pools
    ∷ bad_dhcp form old
    ∷ network_owner rows caller true old.network
    ∷ old_gateway_in_use rows caller old new
    ∷ [])

abbrev pub subnet_edits : SettingsParts → RowLists → NetworkRow → SubnetRow → SubnetRow → Ident
    → MacAddress → Fixed → List Edit
subnet_edits settings rows n old new i mac f =
    Put (Subnet new)
    ∷ begin_serving settings rows n (new.dhcp && not old.dhcp) i mac f
    ++ end_serving rows n.id (old.dhcp && not new.dhcp) old.id

abbrev pub subnet_replaced : SettingsParts → State → Caller → SubnetForm → NetworkRow → SubnetRow
    → SubnetRow → Bool → Outcome
subnet_replaced settings state caller form n old new makes =
    unless (update_refusal state.rows caller form old new)
    (needing (PoolsSpent n.id) (dhcp_address state.rows.ports n.id (new.dhcp && not old.dhcp) new)
    (λ x.
    needing CountersSpent (mac_if makes state.rows.ports n.id) (λ mac.
    needing CountersSpent (drawing_at state n.project (if makes then 1 else 0)) (λ drawing.
    accepted drawing.rows
    (subnet_edits settings drawing.rows n old new (drawn_id drawing 0) mac (fixed_at new.id x))
    (λ rows. OneRow (subnet_shown rows caller new []))))))

abbrev pub subnet_changed : SettingsParts → State → Caller → SubnetForm → NetworkRow → SubnetRow
    → SubnetRow → Outcome
subnet_changed settings state caller form n old new =
    subnet_replaced settings state caller form n old new
    (makes_dhcp_port state.rows.ports n.id (new.dhcp && not old.dhcp))

-- the subnet that the caller sees, and its network, which is there
abbrev pub subnet_updated : SettingsParts → State → Caller → IdText → SubnetForm → Outcome
subnet_updated settings state caller name form =
    needing (not_found SubnetKind name.text) (subnet_seen state.rows caller name.id) (λ s.
    needing (not_found SubnetKind name.text) (row_of (λ n. n.id) s.network state.rows.networks)
    (λ n.
    subnet_changed settings state caller form n s (changed_subnet form s)))

-- taking a subnet out

abbrev pub deletion_refusal : State → Caller → SubnetRow → Option Refusal
deletion_refusal state caller s = first_refusal (
    network_owner state.rows caller true s.network
    ∷ subnet_in_use state.rows caller s.id
    ∷ when (is_last state) CountersSpent
    ∷ [])

abbrev pub subnet_gone : RowLists → SubnetRow → List Edit
subnet_gone rows s = end_serving rows s.network s.dhcp s.id ++ Drop SubnetKind s.id ∷ []

abbrev pub subnet_deleted : State → Caller → IdText → Outcome
subnet_deleted state caller name =
    needing (not_found SubnetKind name.text) (subnet_seen state.rows caller name.id) (λ s.
    unless (deletion_refusal state caller s)
    (accepted state.rows (subnet_gone state.rows s) (λ rows. NoRow)))
