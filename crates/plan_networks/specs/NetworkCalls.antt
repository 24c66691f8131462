-- What calls on networks come to (Networking API v2.0, networks).
use Rattle.call_parts.specs.Edits.{Add, Drop, Edit, Put, accepted, dropped}
use Rattle.api_types.specs.HeldAddresses.{ports_on, subnets_on}
use Rattle.api_policy.specs.Permits.{admin_only, owner_only}
use Rattle.api_policy.specs.Quotas.{over_quota}
use Rattle.plan_networks.specs.NetworkRules.{bad_wire}
use Rattle.api_policy.specs.Seen.{network_seen}
use Rattle.api_ml2.specs.Segments.{asked_segment, chosen_segment, is_bad_number, is_bad_physical, segment_in_use}
use Rattle.api_policy.specs.Uses.{network_in_use, open_in_use, open_policy}
use Rattle.api_policy.specs.Networks.{network_members, permits_all}
use Rattle.api_policy.specs.Shown.{shown_as}
use Rattle.api_types.specs.Given.{are_unlike, owner_of, value_or}
use Rattle.api_types.specs.Refusing.{first_refusal, needing, not_found, unless, when}
use Rattle.call_parts.specs.State.{State, drawing_at, is_last}
use Rattle.api_types.specs.Ident.{Ident}
use Rattle.api_types.specs.Outcome.{Outcome}
use Rattle.api_types.specs.Printed.{NewRow, NoRow, OneRow, ShownRow}
use Rattle.api_types.specs.Registration.{Drawing, drawn_id}
use Rattle.api_types.specs.RowLists.{RowLists}
use Rattle.api_types.specs.Sharing.{everyone}
use Rattle.api_types.specs.Table.{ident_eq}
use Rattle.api_types.specs.declared.call.Caller.{Caller}
use Rattle.api_types.specs.declared.call.IdText.{IdText}
use Rattle.api_types.specs.declared.form.Given.{Given}
use Rattle.api_types.specs.declared.form.NetworkForm.{NetworkForm}
use Rattle.api_types.specs.declared.kind.Kind.TheVariants.{Network as NetworkKind, Subnet as SubnetKind, Port as PortKind, Policy as PolicyKind}
use Rattle.api_types.specs.declared.kind.Row.TheVariants.{Network, Policy}
use Rattle.api_types.specs.declared.network.NetworkRow.{NetworkRow}
use Rattle.api_types.specs.declared.network.Segment.{Segment}
use Rattle.api_types.specs.declared.policy.Action.TheVariants.{External, Shared}
use Rattle.api_types.specs.declared.policy.Action.{Action}
use Rattle.api_types.specs.declared.policy.PolicyRow.{PolicyRow}
use Rattle.api_types.specs.declared.refusal.Refusal.TheVariants.{CountersSpent, Invalid, NoNetwork}
use Rattle.api_types.specs.declared.refusal.Refusal.{Refusal}
use Rattle.net_settings.specs.Settings.{SettingsParts}
use Rattle.std.specs.Prelude.{Bool, List, None, Option, Some, [], codes, false, filter, if◌then◌else◌, is_none, not, true, ℕ, ◌&&◌, ◌++◌, ◌+◌, ◌||◌, ◌∷◌}
use Rattle.net_addr.specs.Words.{Text}
use Rattle.api_policy.specs.Reserved.{network_for_admin}

abbrev pub network_shown : RowLists → Caller → NetworkRow → List Text → ShownRow
network_shown rows caller n fields =
    shown_as NetworkKind caller.admin fields (network_members rows caller n)

-- `shared` and `router:external` are policies with target `*`, of the network's project

abbrev pub new_open_policy : NetworkRow → Action → Ident → PolicyRow
new_open_policy n action i =
    record { id = i; project = n.project; object = n.id; action = action; target = everyone }

-- whether such a policy is made: it is asked for, and there is none; and which one goes, where it
-- is cleared
abbrev pub is_opened : Given Bool → Option PolicyRow → Bool
is_opened asked old = value_or false asked && is_none old

abbrev pub is_cleared : Given Bool → Bool
is_cleared asked = not (value_or true asked)

abbrev pub opening : NetworkRow → Action → Ident → Bool → List Edit
opening n action i false = []
opening n action i true = Add (Policy (new_open_policy n action i)) ∷ []

abbrev pub closing : Option PolicyRow → Bool → List Edit
closing None cleared = []
closing (Some l) false = []
closing (Some l) true = Drop PolicyKind l.id ∷ []

-- as the next id, after this many
abbrev pub one_if : Bool → ℕ
one_if true = 1
one_if false = 0

-- `shared` comes first, then `router:external`
abbrev pub openings : NetworkRow → Drawing → ℕ → Bool → Bool → List Edit
openings n drawing first shared external =
    opening n Shared (drawn_id drawing first) shared
    ++ opening n External (drawn_id drawing (first + one_if shared)) external

-- making a network

abbrev pub new_network : Text → NetworkForm → Ident → Segment → NetworkRow
new_network owner form i segment = record {
  id = i;
  project = owner;
  name = value_or [] form.name;
  description = value_or [] form.description;
  up = value_or true form.admin_state_up;
  segment = segment;
}

abbrev pub network_added : Caller → Drawing → NetworkForm → NetworkRow → Outcome
network_added caller drawing form n =
    accepted drawing.rows
    (Add (Network n)
    ∷ openings n drawing 1 (value_or false form.shared) (value_or false form.router_external))
    (λ rows. NewRow (network_shown rows caller n []))

abbrev pub creation_refusal : SettingsParts → RowLists → Caller → NetworkForm → Text
    → Option Refusal
creation_refusal settings rows caller form owner = first_refusal (
    when (is_bad_physical form) (Invalid (codes "provider:physical_network"))
    ∷ when (is_bad_number form) (Invalid (codes "provider:segmentation_id"))
    ∷ when (are_unlike form.project_id form.tenant_id) (Invalid (codes "tenant_id"))
    ∷ bad_wire settings form
    ∷ admin_only caller (network_for_admin caller form)
    ∷ segment_in_use rows.networks (asked_segment form)
    ∷ over_quota settings rows owner NetworkKind
    ∷ [])

-- how many ids the policies of a new network take
abbrev pub openings_count : NetworkForm → ℕ
openings_count form =
    one_if (value_or false form.shared) + one_if (value_or false form.router_external)

abbrev pub network_made : SettingsParts → State → Caller → NetworkForm → Text → Outcome
network_made settings state caller form owner =
    unless (creation_refusal settings state.rows caller form owner)
    (needing NoNetwork (chosen_segment settings state.rows.networks (asked_segment form))
    (λ segment.
    needing CountersSpent (drawing_at state owner (1 + openings_count form)) (λ drawing.
    network_added caller drawing form (new_network owner form (drawn_id drawing 0) segment))))

abbrev pub network_created : SettingsParts → State → Caller → NetworkForm → Outcome
network_created settings state caller form =
    network_made settings state caller form (owner_of caller form.project_id form.tenant_id)

-- changing a network

abbrev pub changed_network : NetworkForm → NetworkRow → NetworkRow
changed_network form n = record n {
  name = value_or n.name form.name;
  description = value_or n.description form.description;
  up = value_or n.up form.admin_state_up;
}

-- the policies without those that the form clears
abbrev pub is_kept : NetworkForm → Ident → PolicyRow → Bool
is_kept form i l =
    not ((is_cleared form.shared && permits_all i Shared l)
    || (is_cleared form.router_external && permits_all i External l))

abbrev pub update_refusal : State → Caller → NetworkForm → NetworkRow → Option Refusal
update_refusal state caller form n = first_refusal (
    admin_only caller (network_for_admin caller form)
    ∷ owner_only caller n.project
    ∷ (if is_cleared form.shared || is_cleared form.router_external
    then open_in_use state.rows caller (filter (is_kept form n.id) state.rows.policies) n
    else None)
    ∷ [])

-- what a form does to the policy of one action
abbrev pub reopening : NetworkRow → List PolicyRow → Action → Given Bool → Ident → List Edit
reopening n policies action asked i =
    opening n action i (is_opened asked (open_policy policies n.id action))
    ++ closing (open_policy policies n.id action) (is_cleared asked)

abbrev pub opens : RowLists → NetworkRow → Action → Given Bool → ℕ
opens rows n action asked = one_if (is_opened asked (open_policy rows.policies n.id action))

abbrev pub network_edits : RowLists → NetworkForm → NetworkRow → Drawing → List Edit
network_edits rows form n drawing =
    Put (Network (changed_network form n))
    ∷ reopening n rows.policies Shared form.shared (drawn_id drawing 0)
    ++ reopening n rows.policies External form.router_external
    (drawn_id drawing (opens rows n Shared form.shared))

abbrev pub network_changed : State → Caller → NetworkForm → NetworkRow → Outcome
network_changed state caller form n =
    unless (update_refusal state caller form n)
    (needing CountersSpent
    (drawing_at state n.project
    (opens state.rows n Shared form.shared + opens state.rows n External form.router_external))
    (λ drawing.
    accepted drawing.rows (network_edits state.rows form n drawing) (λ rows.
    OneRow (network_shown rows caller (changed_network form n) []))))

abbrev pub network_updated : State → Caller → IdText → NetworkForm → Outcome
network_updated state caller name form =
    needing (not_found NetworkKind name.text) (network_seen state.rows caller name.id)
    (network_changed state caller form)

-- taking a network out, with its subnets, its DHCP port and its policies

abbrev pub deletion_refusal : State → Caller → NetworkRow → Option Refusal
deletion_refusal state caller n = first_refusal (
    owner_only caller n.project
    ∷ network_in_use state.rows caller n.id
    ∷ when (is_last state) CountersSpent
    ∷ [])

abbrev pub network_gone : RowLists → Ident → List Edit
network_gone rows i =
    dropped SubnetKind (λ s. s.id) (subnets_on rows.subnets i)
    ++ dropped PortKind (λ p. p.id) (ports_on rows.ports i)
    ++ dropped PolicyKind (λ l. l.id)
    (filter (λ (l : PolicyRow). ident_eq i l.object) rows.policies)
    ++ Drop NetworkKind i ∷ []

abbrev pub network_deleted : State → Caller → IdText → Outcome
network_deleted state caller name =
    needing (not_found NetworkKind name.text) (network_seen state.rows caller name.id) (λ n.
    unless (deletion_refusal state caller n)
    (accepted state.rows (network_gone state.rows n.id) (λ rows. NoRow)))
