-- What calls on floating addresses come to (Networking API v2.0, floating IPs).
use Rattle.api_types.specs.Association.{Aim, aim_at, with_target}
use Rattle.call_parts.specs.BodyNames.{text_of, unless_found}
use Rattle.call_parts.specs.Edits.{Add, Drop, Put, accepted}
use Rattle.api_types.specs.WithRows.{gone_from}
use Rattle.api_ipam.specs.FixedChoice.{floating_address}
use Rattle.api_types.specs.HeldAddresses.{fixed_at, is_address_held, subnets_on}
use Rattle.api_ipam.specs.MacChoice.{free_mac}
use Rattle.api_policy.specs.Permits.{admin_only, owner_only}
use Rattle.api_policy.specs.Quotas.{over_quota}
use Rattle.plan_floatings.specs.FloatingRules.{bad_address, bad_aim, bad_outside, subnet_with}
use Rattle.api_policy.specs.Seen.{floating_seen, network_seen, port_seen}
use Rattle.api_ml2.specs.ServicePorts.{floating_owner, service_port}
use Rattle.api_policy.specs.Uses.{aim_in_use}
use Rattle.api_policy.specs.Floatings.{floating_members}
use Rattle.api_policy.specs.Shown.{shown_as}
use Rattle.api_types.specs.Given.{are_unlike, is_for_other, is_given, owner_of, value_of, value_or}
use Rattle.api_types.specs.Refusing.{first_refusal, needing, not_found, unless, when}
use Rattle.call_parts.specs.State.{State, drawing_at, is_last}
use Rattle.api_types.specs.Ident.{Ident, ident_text}
use Rattle.api_types.specs.Outcome.{Outcome}
use Rattle.api_types.specs.Printed.{NewRow, NoRow, OneRow, ShownRow}
use Rattle.api_types.specs.Registration.{drawn_id}
use Rattle.api_types.specs.RowLists.{RowLists}
use Rattle.api_types.specs.declared.call.Caller.{Caller}
use Rattle.api_types.specs.declared.call.IdText.{IdText}
use Rattle.api_types.specs.declared.floating.FloatingRow.{FloatingRow}
use Rattle.api_types.specs.declared.floating.Target.{Target}
use Rattle.api_types.specs.declared.form.FloatingForm.{FloatingForm}
use Rattle.api_types.specs.declared.form.Given.TheVariants.{Absent, Is, Null}
use Rattle.api_types.specs.declared.form.Given.{Given}
use Rattle.api_types.specs.declared.kind.Kind.TheVariants.{Network as NetworkKind, Port as PortKind, Floating as FloatingKind}
use Rattle.api_types.specs.declared.kind.Row.TheVariants.{Port, Floating}
use Rattle.api_types.specs.declared.network.NetworkRow.{NetworkRow}
use Rattle.api_types.specs.declared.port.Fixed.{Fixed}
use Rattle.api_types.specs.declared.port.PortRow.{PortRow}
use Rattle.api_types.specs.declared.refusal.Refusal.TheVariants.{CountersSpent, Invalid, PoolsSpent, Taken}
use Rattle.api_types.specs.declared.refusal.Refusal.{Refusal}
use Rattle.api_types.specs.declared.refusal.Value.TheVariants.{Address as AddressValue}
use Rattle.api_types.specs.declared.subnet.SubnetRow.{SubnetRow}
use Rattle.net_addr.specs.Addresses.{number}
use Rattle.net_addr.specs.declared.address.Addr.TheVariants.{V4}
use Rattle.net_settings.specs.Settings.{SettingsParts}
use Rattle.std.specs.Prelude.{Bool, List, None, Option, Some, [], codes, if◌then◌else◌, is_none, not, option_and_then, option_map, ℕ, ◌&&◌, ◌∷◌}
use Rattle.net_addr.specs.Words.{MacAddress, Text}
use Rattle.api_policy.specs.Reserved.{floating_for_admin}

abbrev pub floating_shown : RowLists → Caller → FloatingRow → List Text → ShownRow
floating_shown rows caller f fields =
    shown_as FloatingKind caller.admin fields (floating_members f)

-- `fixed_ip_address` stands beside a port alone
abbrev pub lacks_port : FloatingForm → Bool
lacks_port form = is_given form.fixed_ip_address && is_none (value_of form.port_id)

-- the port that is named, where the caller sees it, and the address of it that is meant
abbrev pub port_asked : RowLists → Caller → FloatingForm → Option PortRow
port_asked rows caller form = port_seen rows caller (value_of form.port_id)

abbrev pub aim_asked : RowLists → Caller → FloatingForm → Option Aim
aim_asked rows caller form =
    option_and_then (aim_at (value_of form.fixed_ip_address)) (port_asked rows caller form)

-- making a floating address

abbrev pub body_refusal : RowLists → Caller → FloatingForm → Text → Option NetworkRow
    → Option Refusal
body_refusal rows caller form owner n = first_refusal (
    when (lacks_port form) (Invalid (codes "fixed_ip_address"))
    ∷ when (are_unlike form.project_id form.tenant_id) (Invalid (codes "tenant_id"))
    ∷ (if not caller.admin && is_for_other caller form.project_id form.tenant_id then None
    else option_and_then (bad_outside rows owner) n)
    ∷ option_and_then (bad_address rows (value_of form.floating_ip_address)) n
    ∷ option_and_then (bad_aim owner (value_of form.fixed_ip_address))
    (port_asked rows caller form)
    ∷ [])

abbrev pub address_held : RowLists → Ident → Option ℕ → Option Refusal
address_held rows network None = None
address_held rows network (Some x) =
    when (is_address_held rows.ports network (V4 x)) (Taken (AddressValue (V4 x)) network)

abbrev pub creation_refusal : RowLists → Caller → FloatingForm → NetworkRow → Option Refusal
creation_refusal rows caller form n = first_refusal (
    unless_found PortKind (value_of form.port_id) (port_asked rows caller form)
    ∷ admin_only caller (floating_for_admin caller form)
    ∷ option_and_then (aim_in_use rows caller rows.floatings n.id) (aim_asked rows caller form)
    ∷ address_held rows n.id (value_of form.floating_ip_address)
    ∷ [])

-- the address that is named, or the least free pool address of the first subnet of version 4 that
-- has one
abbrev pub outer_address : RowLists → Ident → Option ℕ → Option Fixed
outer_address rows network None =
    floating_address (λ x. not (is_address_held rows.ports network x))
    (subnets_on rows.subnets network)
outer_address rows network (Some x) =
    option_map (λ (s : SubnetRow). fixed_at s.id (V4 x)) (subnet_with rows network (V4 x))

abbrev pub new_floating : FloatingForm → Text → NetworkRow → Ident → Ident → ℕ → Option Target
    → FloatingRow
new_floating form owner n i own x target = record {
  id = i;
  project = owner;
  description = value_or [] form.description;
  network = n.id;
  own_port = own;
  address = x;
  target = target;
}

-- the port that holds it, on no host
abbrev pub own_port : SettingsParts → NetworkRow → FloatingRow → MacAddress → Fixed → PortRow
own_port settings n f mac outer =
    service_port settings n f.own_port [] mac (outer ∷ []) floating_owner (ident_text f.id) []

abbrev pub floating_added : Caller → RowLists → FloatingRow → PortRow → Outcome
floating_added caller rows f p =
    accepted rows (Add (Floating f) ∷ Add (Port p) ∷ []) (λ after.
    NewRow (floating_shown after caller f []))

abbrev pub floating_with : SettingsParts → State → Caller → FloatingForm → Text → NetworkRow
    → Option Target → Outcome
floating_with settings state caller form owner n target =
    unless (over_quota settings state.rows owner FloatingKind)
    (needing (PoolsSpent n.id) (outer_address state.rows n.id (value_of form.floating_ip_address))
    (λ outer.
    needing CountersSpent (free_mac state.rows.ports n.id) (λ mac.
    needing CountersSpent (drawing_at state owner 2) (λ drawing.
    let f : FloatingRow = new_floating form owner n (drawn_id drawing 0) (drawn_id drawing 1)
    (number outer.address) target in
    floating_added caller drawing.rows f (own_port settings n f mac outer)))))

abbrev pub floating_made : SettingsParts → State → Caller → FloatingForm → Text → Option NetworkRow
    → Outcome
floating_made settings state caller form owner network =
    unless (body_refusal state.rows caller form owner network)
    (needing (not_found NetworkKind (text_of (value_of form.floating_network_id))) network (λ n.
    unless (creation_refusal state.rows caller form n)
    (with_target state.rows owner n.id (aim_asked state.rows caller form)
    (floating_with settings state caller form owner n))))

abbrev pub floating_created : SettingsParts → State → Caller → FloatingForm → Outcome
floating_created settings state caller form =
    floating_made settings state caller form (owner_of caller form.project_id form.tenant_id)
    (network_seen state.rows caller (value_of form.floating_network_id))

-- changing a floating address

abbrev pub update_refusal : State → Caller → FloatingForm → FloatingRow → Option Refusal
update_refusal state caller form f = first_refusal (
    option_and_then (bad_aim f.project (value_of form.fixed_ip_address))
    (port_asked state.rows caller form)
    ∷ unless_found PortKind (value_of form.port_id) (port_asked state.rows caller form)
    ∷ owner_only caller f.project
    ∷ option_and_then
    (aim_in_use state.rows caller (gone_from (λ g. g.id) f.id state.rows.floatings) f.network)
    (aim_asked state.rows caller form)
    ∷ [])

-- the target stays where no port is named, and null takes it off
abbrev pub target_after : Given Ident → Option Target → Option Target → Option Target
target_after Absent old new = old
target_after Null old new = new
target_after (Is i) old new = new

abbrev pub changed_floating : FloatingForm → FloatingRow → Option Target → FloatingRow
changed_floating form f target = record f {
  description = value_or f.description form.description;
  target = target_after form.port_id f.target target;
}

abbrev pub floating_replaced : State → Caller → FloatingRow → Outcome
floating_replaced state caller f =
    unless (when (is_last state) CountersSpent)
    (accepted state.rows (Put (Floating f) ∷ []) (λ after.
    OneRow (floating_shown after caller f [])))

abbrev pub floating_changed : State → Caller → FloatingForm → FloatingRow → Outcome
floating_changed state caller form f =
    unless (update_refusal state caller form f)
    (with_target state.rows f.project f.network (aim_asked state.rows caller form) (λ target.
    floating_replaced state caller (changed_floating form f target)))

abbrev pub floating_updated : State → Caller → IdText → FloatingForm → Outcome
floating_updated state caller name form =
    unless (when (lacks_port form) (Invalid (codes "fixed_ip_address")))
    (needing (not_found FloatingKind name.text) (floating_seen state.rows caller name.id)
    (floating_changed state caller form))

-- taking a floating address out, with the port that holds it

abbrev pub deletion_refusal : State → Caller → FloatingRow → Option Refusal
deletion_refusal state caller f = first_refusal (
    owner_only caller f.project
    ∷ when (is_last state) CountersSpent
    ∷ [])

abbrev pub floating_deleted : State → Caller → IdText → Outcome
floating_deleted state caller name =
    needing (not_found FloatingKind name.text) (floating_seen state.rows caller name.id) (λ f.
    unless (deletion_refusal state caller f)
    (accepted state.rows (Drop PortKind f.own_port ∷ Drop FloatingKind f.id ∷ []) (λ rows. NoRow)))
