-- What calls on RBAC policies come to (Networking API v2.0, RBAC policies).
use Rattle.call_parts.specs.BodyNames.{no_id, text_of}
use Rattle.call_parts.specs.Edits.{Add, Drop, Put, accepted}
use Rattle.api_types.specs.WithRows.{gone_from, put_in}
use Rattle.api_policy.specs.Permits.{admin_only, network_owner, owner_only}
use Rattle.api_policy.specs.Quotas.{over_quota}
use Rattle.api_policy.specs.Seen.{network_seen, policy_seen}
use Rattle.api_policy.specs.Uses.{policy_in_use}
use Rattle.api_policy.specs.Policies.{policy_members}
use Rattle.api_policy.specs.Shown.{shown_as}
use Rattle.api_types.specs.Given.{are_unlike, owner_of, value_of, value_or}
use Rattle.api_types.specs.Refusing.{first_refusal, needing, not_found, unless, when}
use Rattle.call_parts.specs.State.{State, drawing_at, is_last}
use Rattle.api_types.specs.Consistent.Permitted.{same_policy}
use Rattle.api_types.specs.Ident.{Ident}
use Rattle.api_types.specs.Outcome.{Outcome}
use Rattle.api_types.specs.Printed.{NewRow, NoRow, OneRow, ShownRow}
use Rattle.api_types.specs.Registration.{drawn_id}
use Rattle.api_types.specs.RowLists.{RowLists}
use Rattle.api_types.specs.declared.call.Caller.{Caller}
use Rattle.api_types.specs.declared.call.IdText.{IdText}
use Rattle.api_types.specs.declared.form.PolicyForm.{PolicyForm}
use Rattle.api_types.specs.declared.kind.Kind.TheVariants.{Network as NetworkKind, Policy as PolicyKind}
use Rattle.api_types.specs.declared.kind.Row.TheVariants.{Policy}
use Rattle.api_types.specs.declared.network.NetworkRow.{NetworkRow}
use Rattle.api_types.specs.declared.policy.Action.TheVariants.{Shared}
use Rattle.api_types.specs.declared.policy.PolicyRow.{PolicyRow}
use Rattle.api_types.specs.declared.refusal.Refusal.TheVariants.{CountersSpent, Exists, Invalid}
use Rattle.api_types.specs.declared.refusal.Refusal.{Refusal}
use Rattle.net_settings.specs.Settings.{SettingsParts}
use Rattle.std.specs.Prelude.{List, Option, [], codes, find, option_map, true, ◌∷◌}
use Rattle.net_addr.specs.Words.{Text}
use Rattle.api_policy.specs.Reserved.{policy_for_admin}

abbrev pub policy_shown : RowLists → Caller → PolicyRow → List Text → ShownRow
policy_shown rows caller l fields = shown_as PolicyKind caller.admin fields (policy_members l)

-- one of these policies says the same
abbrev pub equal_policy : List PolicyRow → PolicyRow → Option PolicyRow
equal_policy policies l = find (λ q. same_policy q l) policies

abbrev pub policy_exists : PolicyRow → Refusal
policy_exists l = Exists PolicyKind l.id

-- making a policy

abbrev pub new_policy : PolicyForm → Text → Ident → Ident → PolicyRow
new_policy form owner network i = record {
  id = i;
  project = owner;
  object = network;
  action = value_or Shared form.action;
  target = value_or [] form.target_tenant;
}

abbrev pub creation_refusal : SettingsParts → RowLists → Caller → PolicyForm → Text → NetworkRow
    → Option Refusal
creation_refusal settings rows caller form owner n = first_refusal (
    admin_only caller (policy_for_admin caller form)
    ∷ network_owner rows caller true n.id
    ∷ option_map policy_exists (equal_policy rows.policies (new_policy form owner n.id no_id))
    ∷ over_quota settings rows owner PolicyKind
    ∷ [])

abbrev pub policy_added : Caller → RowLists → PolicyRow → Outcome
policy_added caller rows l =
    accepted rows (Add (Policy l) ∷ []) (λ after. NewRow (policy_shown after caller l []))

abbrev pub policy_made : SettingsParts → State → Caller → PolicyForm → Text → Outcome
policy_made settings state caller form owner =
    needing (not_found NetworkKind (text_of (value_of form.object_id)))
    (network_seen state.rows caller (value_of form.object_id)) (λ n.
    unless (creation_refusal settings state.rows caller form owner n)
    (needing CountersSpent (drawing_at state owner 1) (λ drawing.
    policy_added caller drawing.rows (new_policy form owner n.id (drawn_id drawing 0)))))

abbrev pub policy_created : SettingsParts → State → Caller → PolicyForm → Outcome
policy_created settings state caller form =
    unless (when (are_unlike form.project_id form.tenant_id) (Invalid (codes "tenant_id")))
    (policy_made settings state caller form (owner_of caller form.project_id form.tenant_id))

-- changing a policy

abbrev pub changed_policy : PolicyForm → PolicyRow → PolicyRow
changed_policy form l = record l { target = value_or l.target form.target_tenant }

abbrev pub update_refusal : State → Caller → PolicyForm → PolicyRow → PolicyRow → Option Refusal
update_refusal state caller form old new = first_refusal (
    admin_only caller (policy_for_admin caller form)
    ∷ owner_only caller old.project
    ∷ policy_in_use state.rows caller (put_in (λ q. q.id) new state.rows.policies) old
    ∷ option_map policy_exists
    (equal_policy (gone_from (λ q. q.id) old.id state.rows.policies) new)
    ∷ when (is_last state) CountersSpent
    ∷ [])

abbrev pub policy_replaced : Caller → RowLists → PolicyRow → Outcome
policy_replaced caller rows l =
    accepted rows (Put (Policy l) ∷ []) (λ after. OneRow (policy_shown after caller l []))

abbrev pub policy_updated : State → Caller → IdText → PolicyForm → Outcome
policy_updated state caller name form =
    needing (not_found PolicyKind name.text) (policy_seen state.rows caller name.id) (λ l.
    unless (update_refusal state caller form l (changed_policy form l))
    (policy_replaced caller state.rows (changed_policy form l)))

-- taking a policy out

abbrev pub deletion_refusal : State → Caller → PolicyRow → Option Refusal
deletion_refusal state caller l = first_refusal (
    owner_only caller l.project
    ∷ policy_in_use state.rows caller (gone_from (λ q. q.id) l.id state.rows.policies) l
    ∷ when (is_last state) CountersSpent
    ∷ [])

abbrev pub policy_deleted : State → Caller → IdText → Outcome
policy_deleted state caller name =
    needing (not_found PolicyKind name.text) (policy_seen state.rows caller name.id) (λ l.
    unless (deletion_refusal state caller l)
    (accepted state.rows (Drop PolicyKind l.id ∷ []) (λ rows. NoRow)))
