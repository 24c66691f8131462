-- What calls on policies refuse, the machine refuses of itself.
use Rattle.std.proofs.Common.{◌≡◌, ℕ, List, [], ◌∷◌, true, arith, refl}
use Rattle.api_policy.specs.Permits.{admin_only, network_owner, owner_only}
use Rattle.api_policy.specs.Quotas.{over_quota}
use Rattle.api_policy.specs.Seen.{network_seen, policy_seen}
use Rattle.api_policy.specs.Uses.{policy_in_use}
use Rattle.api_types.specs.Given.{are_unlike, owner_of, value_of}
use Rattle.api_types.specs.Refusing.{needing, not_found, unless, when}
use Rattle.api_types.specs.Registration.{drawn_id}
use Rattle.api_types.specs.RowLists.{RowLists}
use Rattle.api_types.specs.declared.call.Caller.{Caller}
use Rattle.api_types.specs.declared.call.IdText.{IdText}
use Rattle.api_types.specs.declared.form.PolicyForm.{PolicyForm}
use Rattle.api_types.specs.declared.kind.Kind.TheVariants.{Network as NetworkKind, Policy as PolicyKind}
use Rattle.api_types.specs.declared.network.NetworkRow.{NetworkRow}
use Rattle.api_types.specs.declared.policy.PolicyRow.{PolicyRow}
use Rattle.api_types.specs.declared.refusal.Refusal.TheVariants.{CountersSpent, Invalid}
use Rattle.call_parts.specs.BodyNames.{no_id, text_of}
use Rattle.api_types.specs.WithRows.{gone_from, put_in}
use Rattle.call_parts.specs.State.{State, drawing_at, is_last}
use Rattle.kept_laws.proofs.Own.{is_own_outcome, own_first, own_needing, own_unless, owns}
use Rattle.kept_laws.proofs.OwnChecks.{own_admin_only, own_network_owner, own_over_quota, own_owner_only, own_policy_in_use}
use Rattle.net_settings.specs.Settings.{SettingsParts}
use Rattle.plan_policies.specs.PolicyCalls.{changed_policy, creation_refusal, deletion_refusal, equal_policy, new_policy, policy_added, policy_created, policy_deleted, policy_exists, policy_made, policy_replaced, policy_updated, update_refusal}
use Rattle.std.specs.Prelude.{codes, option_map}
use Rattle.api_policy.specs.Reserved.{policy_for_admin}

-- PolicyCalls

pub own_creation_refusal : (settings : SettingsParts) (rows : RowLists) (caller : Caller) (form : PolicyForm) (owner : List ℕ) (n : NetworkRow) → owns (creation_refusal settings rows caller form owner n) ≡ true
own_creation_refusal settings rows caller form owner n =
    own_first (admin_only caller (policy_for_admin caller form)) (network_owner rows caller true n.id ∷ option_map policy_exists (equal_policy rows.policies (new_policy form owner n.id no_id)) ∷ over_quota settings rows owner PolicyKind ∷ []) (own_admin_only caller (policy_for_admin caller form))
    (own_first (network_owner rows caller true n.id) (option_map policy_exists (equal_policy rows.policies (new_policy form owner n.id no_id)) ∷ over_quota settings rows owner PolicyKind ∷ []) (own_network_owner rows caller true n.id)
    (own_first (option_map policy_exists (equal_policy rows.policies (new_policy form owner n.id no_id))) (over_quota settings rows owner PolicyKind ∷ []) (grind arith)
    (own_first (over_quota settings rows owner PolicyKind) ([]) (own_over_quota settings rows owner PolicyKind)
    (refl))))

pub own_policy_added : (caller : Caller) (rows : RowLists) (l : PolicyRow) → is_own_outcome (policy_added caller rows l) ≡ true
own_policy_added caller rows l = grind arith

pub own_policy_made : (settings : SettingsParts) (state : State) (caller : Caller) (form : PolicyForm) (owner : List ℕ) → is_own_outcome (policy_made settings state caller form owner) ≡ true
own_policy_made settings state caller form owner =
    own_needing (not_found NetworkKind (text_of (value_of form.object_id))) (network_seen state.rows caller (value_of form.object_id)) (λ n. unless (creation_refusal settings state.rows caller form owner n) (needing CountersSpent (drawing_at state owner 1) (λ drawing. policy_added caller drawing.rows (new_policy form owner n.id (drawn_id drawing 0))))) refl (λ n. own_unless (creation_refusal settings state.rows caller form owner n) (needing CountersSpent (drawing_at state owner 1) (λ drawing. policy_added caller drawing.rows (new_policy form owner n.id (drawn_id drawing 0)))) (own_creation_refusal settings state.rows caller form owner n)
    (own_needing CountersSpent (drawing_at state owner 1) (λ drawing. policy_added caller drawing.rows (new_policy form owner n.id (drawn_id drawing 0))) refl (λ drawing. own_policy_added caller drawing.rows (new_policy form owner n.id (drawn_id drawing 0)))))

pub own_policy_created : (settings : SettingsParts) (state : State) (caller : Caller) (form : PolicyForm) → is_own_outcome (policy_created settings state caller form) ≡ true
own_policy_created settings state caller form =
    own_unless (when (are_unlike form.project_id form.tenant_id) (Invalid (codes "tenant_id"))) (policy_made settings state caller form (owner_of caller form.project_id form.tenant_id)) (grind arith)
    (own_policy_made settings state caller form (owner_of caller form.project_id form.tenant_id))

pub own_update_refusal : (state : State) (caller : Caller) (form : PolicyForm) (old : PolicyRow) (new : PolicyRow) → owns (update_refusal state caller form old new) ≡ true
own_update_refusal state caller form old new =
    own_first (admin_only caller (policy_for_admin caller form)) (owner_only caller old.project ∷ policy_in_use state.rows caller (put_in (λ q. q.id) new state.rows.policies) old ∷ option_map policy_exists (equal_policy (gone_from (λ q. q.id) old.id state.rows.policies) new) ∷ when (is_last state) CountersSpent ∷ []) (own_admin_only caller (policy_for_admin caller form))
    (own_first (owner_only caller old.project) (policy_in_use state.rows caller (put_in (λ q. q.id) new state.rows.policies) old ∷ option_map policy_exists (equal_policy (gone_from (λ q. q.id) old.id state.rows.policies) new) ∷ when (is_last state) CountersSpent ∷ []) (own_owner_only caller old.project)
    (own_first (policy_in_use state.rows caller (put_in (λ q. q.id) new state.rows.policies) old) (option_map policy_exists (equal_policy (gone_from (λ q. q.id) old.id state.rows.policies) new) ∷ when (is_last state) CountersSpent ∷ []) (own_policy_in_use state.rows caller (put_in (λ q. q.id) new state.rows.policies) old)
    (own_first (option_map policy_exists (equal_policy (gone_from (λ q. q.id) old.id state.rows.policies) new)) (when (is_last state) CountersSpent ∷ []) (grind arith)
    (own_first (when (is_last state) CountersSpent) ([]) (grind arith)
    (refl)))))

pub own_policy_replaced : (caller : Caller) (rows : RowLists) (l : PolicyRow) → is_own_outcome (policy_replaced caller rows l) ≡ true
own_policy_replaced caller rows l = grind arith

pub own_policy_updated : (state : State) (caller : Caller) (name : IdText) (form : PolicyForm) → is_own_outcome (policy_updated state caller name form) ≡ true
own_policy_updated state caller name form =
    own_needing (not_found PolicyKind name.text) (policy_seen state.rows caller name.id) (λ l. unless (update_refusal state caller form l (changed_policy form l)) (policy_replaced caller state.rows (changed_policy form l))) refl (λ l. own_unless (update_refusal state caller form l (changed_policy form l)) (policy_replaced caller state.rows (changed_policy form l)) (own_update_refusal state caller form l (changed_policy form l))
    (own_policy_replaced caller state.rows (changed_policy form l)))

pub own_deletion_refusal : (state : State) (caller : Caller) (l : PolicyRow) → owns (deletion_refusal state caller l) ≡ true
own_deletion_refusal state caller l = grind arith

pub own_policy_deleted : (state : State) (caller : Caller) (name : IdText) → is_own_outcome (policy_deleted state caller name) ≡ true
own_policy_deleted state caller name = grind arith
