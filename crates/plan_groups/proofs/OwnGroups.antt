-- What calls on groups and rules refuse, the machine refuses of itself.
use Rattle.std.proofs.Common.{◌≡◌, ℕ, List, [], ◌∷◌, true, Option, arith, refl}
use Rattle.api_policy.specs.Seen.{group_seen}
use Rattle.api_secgroup.specs.RuleParts.{bad_part, new_rule}
use Rattle.api_types.specs.Given.{owner_of, value_of}
use Rattle.api_types.specs.Refusing.{needing, not_found, unless}
use Rattle.api_types.specs.Registration.{Drawing, drawn_id}
use Rattle.api_types.specs.RowLists.{RowLists}
use Rattle.api_types.specs.declared.call.Caller.{Caller}
use Rattle.api_types.specs.declared.call.IdText.{IdText}
use Rattle.api_types.specs.declared.form.GroupForm.{GroupForm}
use Rattle.api_types.specs.declared.form.RuleForm.{RuleForm}
use Rattle.api_types.specs.declared.group.GroupRow.{GroupRow}
use Rattle.api_types.specs.declared.group.RuleRow.{RuleRow}
use Rattle.api_types.specs.declared.kind.Kind.TheVariants.{Group as GroupKind}
use Rattle.api_types.specs.declared.refusal.Refusal.TheVariants.{CountersSpent}
use Rattle.call_parts.specs.BodyNames.{no_id, text_of, unless_all}
use Rattle.call_parts.specs.State.{State, drawing_at}
use Rattle.kept_laws.proofs.Own.{is_own_outcome, own_first, own_needing, own_unless, owns}
use Rattle.plan_groups.proofs.OwnParts.{own_bad_part}
use Rattle.kept_laws.proofs.OwnChecks.{own_unless_all}
use Rattle.net_settings.specs.Settings.{SettingsParts}
use Rattle.plan_groups.specs.GroupCalls.{group_added, group_created, group_creation_refusal, group_deleted, group_deletion_refusal, group_made, group_replaced, group_update_refusal, group_updated, is_remote_seen, new_group, rule_added, rule_body_refusal, rule_created, rule_creation_refusal, rule_deleted, rule_deletion_refusal}
use Rattle.std.specs.Prelude.{option_to_list}

-- GroupCalls

pub own_group_added : (caller : Caller) (drawing : Drawing) (g : GroupRow) → is_own_outcome (group_added caller drawing g) ≡ true
own_group_added caller drawing g = grind arith

pub own_group_creation_refusal : (settings : SettingsParts) (rows : RowLists) (caller : Caller) (form : GroupForm) (owner : List ℕ) → owns (group_creation_refusal settings rows caller form owner) ≡ true
own_group_creation_refusal settings rows caller form owner = grind arith

pub own_group_made : (settings : SettingsParts) (state : State) (caller : Caller) (form : GroupForm) (owner : List ℕ) → is_own_outcome (group_made settings state caller form owner) ≡ true
own_group_made settings state caller form owner =
    own_unless (group_creation_refusal settings state.rows caller form owner) (needing CountersSpent (drawing_at state owner 3) (λ drawing. group_added caller drawing (new_group form owner (drawn_id drawing 0)))) (own_group_creation_refusal settings state.rows caller form owner)
    (own_needing CountersSpent (drawing_at state owner 3) (λ drawing. group_added caller drawing (new_group form owner (drawn_id drawing 0))) refl (λ drawing. own_group_added caller drawing (new_group form owner (drawn_id drawing 0))))

pub own_group_created : (settings : SettingsParts) (state : State) (caller : Caller) (form : GroupForm) → is_own_outcome (group_created settings state caller form) ≡ true
own_group_created settings state caller form =
    own_group_made settings state caller form (owner_of caller form.project_id form.tenant_id)

pub own_group_update_refusal : (state : State) (caller : Caller) (form : GroupForm) (g : GroupRow) → owns (group_update_refusal state caller form g) ≡ true
own_group_update_refusal state caller form g = grind arith

pub own_group_replaced : (caller : Caller) (rows : RowLists) (g : GroupRow) → is_own_outcome (group_replaced caller rows g) ≡ true
own_group_replaced caller rows g = grind arith

pub own_group_updated : (state : State) (caller : Caller) (name : IdText) (form : GroupForm) → is_own_outcome (group_updated state caller name form) ≡ true
own_group_updated state caller name form = grind arith

pub own_group_deletion_refusal : (state : State) (caller : Caller) (g : GroupRow) → owns (group_deletion_refusal state caller g) ≡ true
own_group_deletion_refusal state caller g = grind arith

pub own_group_deleted : (state : State) (caller : Caller) (name : IdText) → is_own_outcome (group_deleted state caller name) ≡ true
own_group_deleted state caller name = grind arith

pub own_rule_body_refusal : (rows : RowLists) (caller : Caller) (form : RuleForm) (g : Option GroupRow) → owns (rule_body_refusal rows caller form g) ≡ true
own_rule_body_refusal rows caller form g =
    own_first (bad_part form) (unless_all GroupKind (is_remote_seen rows caller g) (option_to_list (value_of form.remote_group_id)) ∷ []) (own_bad_part form)
    (own_first (unless_all GroupKind (is_remote_seen rows caller g) (option_to_list (value_of form.remote_group_id))) ([]) (own_unless_all GroupKind (is_remote_seen rows caller g) (option_to_list (value_of form.remote_group_id)))
    (refl))

pub own_rule_creation_refusal : (settings : SettingsParts) (rows : RowLists) (caller : Caller) (g : GroupRow) (r : RuleRow) → owns (rule_creation_refusal settings rows caller g r) ≡ true
own_rule_creation_refusal settings rows caller g r = grind arith

pub own_rule_added : (caller : Caller) (rows : RowLists) (r : RuleRow) → is_own_outcome (rule_added caller rows r) ≡ true
own_rule_added caller rows r = grind arith

pub own_rule_created : (settings : SettingsParts) (state : State) (caller : Caller) (form : RuleForm) → is_own_outcome (rule_created settings state caller form) ≡ true
own_rule_created settings state caller form =
    own_unless (rule_body_refusal state.rows caller form (group_seen state.rows caller (value_of form.security_group_id))) (needing (not_found GroupKind (text_of (value_of form.security_group_id))) (group_seen state.rows caller (value_of form.security_group_id)) (λ g. unless (rule_creation_refusal settings state.rows caller g (new_rule form g no_id)) (needing CountersSpent (drawing_at state g.project 1) (λ drawing. rule_added caller drawing.rows (new_rule form g (drawn_id drawing 0)))))) (own_rule_body_refusal state.rows caller form (group_seen state.rows caller (value_of form.security_group_id)))
    (own_needing (not_found GroupKind (text_of (value_of form.security_group_id))) (group_seen state.rows caller (value_of form.security_group_id)) (λ g. unless (rule_creation_refusal settings state.rows caller g (new_rule form g no_id)) (needing CountersSpent (drawing_at state g.project 1) (λ drawing. rule_added caller drawing.rows (new_rule form g (drawn_id drawing 0))))) refl (λ g. own_unless (rule_creation_refusal settings state.rows caller g (new_rule form g no_id)) (needing CountersSpent (drawing_at state g.project 1) (λ drawing. rule_added caller drawing.rows (new_rule form g (drawn_id drawing 0)))) (own_rule_creation_refusal settings state.rows caller g (new_rule form g no_id))
    (own_needing CountersSpent (drawing_at state g.project 1) (λ drawing. rule_added caller drawing.rows (new_rule form g (drawn_id drawing 0))) refl (λ drawing. own_rule_added caller drawing.rows (new_rule form g (drawn_id drawing 0))))))

pub own_rule_deletion_refusal : (state : State) (caller : Caller) (r : RuleRow) → owns (rule_deletion_refusal state caller r) ≡ true
own_rule_deletion_refusal state caller r = grind arith

pub own_rule_deleted : (state : State) (caller : Caller) (name : IdText) → is_own_outcome (rule_deleted state caller name) ≡ true
own_rule_deleted state caller name = grind arith
