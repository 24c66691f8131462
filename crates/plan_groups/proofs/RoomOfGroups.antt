-- Calls of groups and rules that move rows find room for one more version.
use Rattle.std.proofs.Common.{◌≡◌, ℕ, List, [], ◌∷◌, Option, Some, false, refl}
use Rattle.std.specs.Prelude.{codes, ◌&&◌}
use Rattle.api_types.specs.Given.{is_given, owner_of, value_of}
use Rattle.api_types.specs.Outcome.{Moved, Outcome}
use Rattle.api_types.specs.Printed.{NoRow, Reply}
use Rattle.api_types.specs.Refusing.{needing, not_found, unless, when}
use Rattle.api_types.specs.Registration.{Drawing, draw_of, drawn_id}
use Rattle.api_types.specs.RowLists.{RowLists}
use Rattle.api_types.specs.declared.call.Caller.{Caller}
use Rattle.api_types.specs.declared.call.IdText.{IdText}
use Rattle.api_types.specs.declared.form.GroupForm.{GroupForm}
use Rattle.api_types.specs.declared.form.RuleForm.{RuleForm}
use Rattle.api_types.specs.declared.group.GroupRow.{GroupRow}
use Rattle.api_types.specs.declared.group.RuleRow.{RuleRow}
use Rattle.api_types.specs.declared.kind.Kind.TheVariants.{Group, Rule}
use Rattle.api_types.specs.declared.refusal.Refusal.{Refusal}
use Rattle.api_types.specs.declared.refusal.Refusal.TheVariants.{CountersSpent, Invalid}
use Rattle.net_settings.specs.Settings.{SettingsParts}
use Rattle.api_policy.specs.Permits.{owner_only}
use Rattle.api_policy.specs.Seen.{group_seen, rule_seen}
use Rattle.api_policy.specs.Uses.{default_in_use, group_in_use}
use Rattle.call_parts.specs.BodyNames.{no_id, text_of}
use Rattle.call_parts.specs.Edits.{Drop, accepted}
use Rattle.call_parts.specs.State.{State, drawing_at, is_last}
use Rattle.plan_groups.specs.GroupCalls as groups
use Rattle.api_secgroup.specs.RuleParts.{new_rule}
use Rattle.kept_laws.proofs.EditedRows.{none_refused}
use Rattle.kept_laws.proofs.OutcomeLemmas.{if_some, needing_moved, not_when, unless_moved}

module _ (settings : SettingsParts) (state : State) (caller : Caller) (rows : RowLists) (reply : Reply) where
  -- ids are drawn where there is room
  by_drawing : (name : List ℕ) (many : ℕ) (d : Drawing) → drawing_at state name many ≡ Some d → is_last state ≡ false
  by_drawing name many d at = (if_some (is_last state) (draw_of state.rows name many) d at).0

  pub group_created_room : (form : GroupForm) → groups.group_created settings state caller form ≡ Moved rows reply → is_last state ≡ false
  group_created_room form h =
      let owner : List ℕ = owner_of caller form.project_id form.tenant_id in
      let add : Drawing → Outcome = λ d. groups.group_added caller d (groups.new_group form owner (drawn_id d 0)) in
      let passed = unless_moved (groups.group_creation_refusal settings state.rows caller form owner) (needing CountersSpent (drawing_at state owner 3) add) rows reply h in
      let drawing = needing_moved CountersSpent (drawing_at state owner 3) add rows reply passed.1 in
      by_drawing owner 3 drawing.0 drawing.1

  pub group_updated_room : (name : IdText) (form : GroupForm) → groups.group_updated state caller name form ≡ Moved rows reply → is_last state ≡ false
  group_updated_room name form h =
      let set : GroupRow → Outcome = λ g. groups.group_replaced caller state.rows (groups.changed_group form g) in
      let rest : GroupRow → Outcome = λ g. unless (groups.group_update_refusal state caller form g) (set g) in
      let found = needing_moved (not_found Group name.text) (group_seen state.rows caller name.id) rest rows reply h in
      let g : GroupRow = found.0 in
      let passed = unless_moved (groups.group_update_refusal state caller form g) (set g) rows reply found.2 in
      let last : Option Refusal = when (is_last state) CountersSpent in
      not_when (is_last state) CountersSpent (none_refused (when (g.is_default && is_given form.name) (Invalid (codes "name")) ∷ owner_only caller g.project ∷ last ∷ []) passed.0 2 last refl)

  pub group_deleted_room : (name : IdText) → groups.group_deleted state caller name ≡ Moved rows reply → is_last state ≡ false
  group_deleted_room name h =
      let gone : GroupRow → Outcome = λ g. accepted state.rows (groups.group_gone state.rows g.id) (λ after. NoRow) in
      let rest : GroupRow → Outcome = λ g. unless (groups.group_deletion_refusal state caller g) (gone g) in
      let found = needing_moved (not_found Group name.text) (group_seen state.rows caller name.id) rest rows reply h in
      let g : GroupRow = found.0 in
      let passed = unless_moved (groups.group_deletion_refusal state caller g) (gone g) rows reply found.2 in
      let last : Option Refusal = when (is_last state) CountersSpent in
      not_when (is_last state) CountersSpent (none_refused (owner_only caller g.project ∷ default_in_use g ∷ group_in_use state.rows caller g.id ∷ last ∷ []) passed.0 3 last refl)

  pub rule_created_room : (form : RuleForm) → groups.rule_created settings state caller form ≡ Moved rows reply → is_last state ≡ false
  rule_created_room form h =
      let seen : Option GroupRow = group_seen state.rows caller (value_of form.security_group_id) in
      let add : GroupRow → Drawing → Outcome = λ g d. groups.rule_added caller d.rows (new_rule form g (drawn_id d 0)) in
      let draw : GroupRow → Outcome = λ g. needing CountersSpent (drawing_at state g.project 1) (add g) in
      let rest : GroupRow → Outcome = λ g. unless (groups.rule_creation_refusal settings state.rows caller g (new_rule form g no_id)) (draw g) in
      let body = unless_moved (groups.rule_body_refusal state.rows caller form seen) (needing (not_found Group (text_of (value_of form.security_group_id))) seen rest) rows reply h in
      let found = needing_moved (not_found Group (text_of (value_of form.security_group_id))) seen rest rows reply body.1 in
      let g : GroupRow = found.0 in
      let passed = unless_moved (groups.rule_creation_refusal settings state.rows caller g (new_rule form g no_id)) (draw g) rows reply found.2 in
      let drawing = needing_moved CountersSpent (drawing_at state g.project 1) (add g) rows reply passed.1 in
      by_drawing g.project 1 drawing.0 drawing.1

  pub rule_deleted_room : (name : IdText) → groups.rule_deleted state caller name ≡ Moved rows reply → is_last state ≡ false
  rule_deleted_room name h =
      let gone : RuleRow → Outcome = λ r. accepted state.rows (Drop Rule r.id ∷ []) (λ after. NoRow) in
      let rest : RuleRow → Outcome = λ r. unless (groups.rule_deletion_refusal state caller r) (gone r) in
      let found = needing_moved (not_found Rule name.text) (rule_seen state.rows caller name.id) rest rows reply h in
      let r : RuleRow = found.0 in
      let passed = unless_moved (groups.rule_deletion_refusal state caller r) (gone r) rows reply found.2 in
      let last : Option Refusal = when (is_last state) CountersSpent in
      not_when (is_last state) CountersSpent (none_refused (owner_only caller r.project ∷ last ∷ []) passed.0 1 last refl)
