-- A tenant's calls on policies leave what others own alone.
use Rattle.api_policy.specs.Permits.{admin_only, network_owner}
use Rattle.api_policy.specs.Quotas.{over_quota}
use Rattle.api_policy.specs.Reserved.{is_for_all, policy_for_admin}
use Rattle.api_policy.specs.Seen.{network_seen, policy_seen}
use Rattle.api_policy.specs.Visibility.{is_own}
use Rattle.api_types.proofs.NameLemmas.{bytes_itself}
use Rattle.api_types.specs.Consistent.{IsConsistent}
use Rattle.api_types.specs.Given.{are_unlike, is_for_other, owner_of, value_of, value_or}
use Rattle.api_types.specs.Outcome.{Moved, Outcome}
use Rattle.api_types.specs.Printed.{NoRow, Reply}
use Rattle.api_types.specs.Refusing.{needing, not_found, unless, when}
use Rattle.api_types.specs.Registration.{Drawing, drawn_id}
use Rattle.api_types.specs.RowLists.{RowLists}
use Rattle.api_types.specs.Sharing.{is_action}
use Rattle.api_types.specs.Table.{ident_eq}
use Rattle.api_types.specs.WithRows.{gone_from, put_in, with_put, without_row}
use Rattle.api_types.specs.declared.call.Caller.{Caller}
use Rattle.api_types.specs.declared.call.IdText.{IdText}
use Rattle.api_types.specs.declared.form.PolicyForm.{PolicyForm}
use Rattle.api_types.specs.declared.kind.Kind.TheVariants.{Network as NetworkKind, Policy as PolicyKind}
use Rattle.api_types.specs.declared.kind.Row.TheVariants.{Policy}
use Rattle.api_types.specs.declared.network.NetworkRow.{NetworkRow}
use Rattle.api_types.specs.declared.policy.Action.TheVariants.{External, Shared}
use Rattle.api_types.specs.declared.policy.PolicyRow.{PolicyRow}
use Rattle.api_types.specs.declared.refusal.Refusal.{Refusal}
use Rattle.api_types.specs.declared.refusal.Refusal.TheVariants.{CountersSpent, Invalid}
use Rattle.call_parts.specs.BodyNames.{no_id, text_of}
use Rattle.call_parts.specs.Edits.{Drop, accepted}
use Rattle.call_parts.specs.State.{State, drawing_at}
use Rattle.net_settings.specs.Settings.{SettingsParts}
use Rattle.apart_laws.proofs.Drawn.{draws_sparing}
use Rattle.apart_laws.proofs.Filtered.{one_pushed, others_gone, others_put}
use Rattle.kept_laws.proofs.OutcomeLemmas.{moved_rows, named_is, needing_moved, unless_moved}
use Rattle.kept_laws.proofs.EditedRows.{none_refused}
use Rattle.apart_laws.proofs.Steps.{Spares, none_of_others, or_fails, others, own_alone, own_owner, own_tenant, spares_then, unneeded, with_policies}
use Rattle.plan_policies.specs.PolicyCalls.{changed_policy, creation_refusal, deletion_refusal, equal_policy, new_policy, policy_added, policy_created, policy_deleted, policy_exists, policy_made, policy_replaced, policy_updated, update_refusal}
use Rattle.std.proofs.Common.{List, Option, [], ap, arith, false, not, refl, subst, true, ℕ, ◌++◌, ◌∙◌, ◌∷◌, ◌≡◌}
use Rattle.std.specs.Prelude.{codes, option_map, ◌||◌}
use Rattle.std.specs.Str.{bytes_eq}

pub policy_created_spares : (settings : SettingsParts) (state : State) (caller : Caller) (form : PolicyForm) (rows : RowLists) (reply : Reply) → caller.admin ≡ false → IsConsistent state.rows
    → policy_created settings state caller form ≡ Moved rows reply → Spares caller.project state.rows rows
policy_created_spares settings state caller form rows reply tenant c h =
    let owner : List ℕ = owner_of caller form.project_id form.tenant_id in
    let add : NetworkRow → Drawing → Outcome = λ n d. policy_added caller d.rows (new_policy form owner n.id (drawn_id d 0)) in
    let draw : NetworkRow → Outcome = λ n. needing CountersSpent (drawing_at state owner 1) (add n) in
    let rest : NetworkRow → Outcome = λ n. unless (creation_refusal settings state.rows caller form owner n) (draw n) in
    let first = unless_moved (when (are_unlike form.project_id form.tenant_id) (Invalid (codes "tenant_id"))) (policy_made settings state caller form owner) rows reply h in
    let found = needing_moved (not_found NetworkKind (text_of (value_of form.object_id))) (network_seen state.rows caller (value_of form.object_id)) rest rows reply first.1 in
    let n : NetworkRow = found.0 in
    let passed = unless_moved (creation_refusal settings state.rows caller form owner n) (draw n) rows reply found.2 in
    let drawing = needing_moved CountersSpent (drawing_at state owner 1) (add n) rows reply passed.1 in
    let d : Drawing = drawing.0 in
    let l : PolicyRow = new_policy form owner n.id (drawn_id d 0) in
    let by_admin : Option Refusal = admin_only caller (policy_for_admin caller form) in
    let os : List (Option Refusal) = by_admin ∷ network_owner state.rows caller true n.id ∷ option_map policy_exists (equal_policy state.rows.policies (new_policy form owner n.id no_id)) ∷ over_quota settings state.rows owner PolicyKind ∷ [] in
    let plain = or_fails (is_for_all form || is_action External (value_or Shared form.action)) (is_for_other caller form.project_id form.tenant_id)
    (unneeded caller (policy_for_admin caller form) tenant (none_refused os passed.0 0 by_admin refl)) in
    let own : owner ≡ caller.project = own_owner caller form.project_id form.tenant_id plain.1 in
    let itself : not (bytes_eq owner caller.project) ≡ false = ap (λ p. not (bytes_eq p caller.project)) own ∙ ap not (bytes_itself caller.project) in
    let now : RowLists = record d.rows { policies = d.rows.policies ++ l ∷ [] } in
    let drawn : Spares caller.project state.rows d.rows = (draws_sparing state caller.project owner 1 d own drawing.1).spares in
    subst (Spares caller.project state.rows) (moved_rows now rows _ reply drawing.2)
    (spares_then caller.project state.rows d.rows now drawn
    (with_policies caller.project d.rows (d.rows.policies ++ l ∷ []) (one_pushed (others (λ (x : PolicyRow). x.project) caller.project) d.rows.policies l itself)))

pub policy_updated_spares : (state : State) (caller : Caller) (name : IdText) (form : PolicyForm) (rows : RowLists) (reply : Reply) → caller.admin ≡ false → IsConsistent state.rows
    → policy_updated state caller name form ≡ Moved rows reply → Spares caller.project state.rows rows
policy_updated_spares state caller name form rows reply tenant c h =
    let set : PolicyRow → Outcome = λ l. policy_replaced caller state.rows (changed_policy form l) in
    let rest : PolicyRow → Outcome = λ l. unless (update_refusal state caller form l (changed_policy form l)) (set l) in
    let found = needing_moved (not_found PolicyKind name.text) (policy_seen state.rows caller name.id) rest rows reply h in
    let l : PolicyRow = found.0 in
    let new : PolicyRow = changed_policy form l in
    let here = named_is (λ (q : PolicyRow). q.id) (λ (q : PolicyRow). is_own caller q.project) state.rows.policies name.id l found.1 in
    let passed = unless_moved (update_refusal state caller form l new) (set l) rows reply found.2 in
    let own = own_tenant caller l.project tenant here.is_seen in
    let are = own_alone (λ (q : PolicyRow). q.id) (λ (q : PolicyRow). q.project) caller.project state.rows.policies here.place l (omega (arith, c.numbered.ids l.id)) here.at own in
    subst (Spares caller.project state.rows) (moved_rows (with_put state.rows (Policy new)) rows _ reply passed.1)
    (with_policies caller.project state.rows (put_in (λ (q : PolicyRow). q.id) new state.rows.policies)
    (others_put (others (λ (r : PolicyRow). r.project) caller.project) (λ (q : PolicyRow). ident_eq l.id q.id) new state.rows.policies (ap not own)
    (none_of_others (λ (q : PolicyRow). q.id) (λ (q : PolicyRow). q.project) caller.project l.id state.rows.policies are)))

pub policy_deleted_spares : (state : State) (caller : Caller) (name : IdText) (rows : RowLists) (reply : Reply) → caller.admin ≡ false → IsConsistent state.rows
    → policy_deleted state caller name ≡ Moved rows reply → Spares caller.project state.rows rows
policy_deleted_spares state caller name rows reply tenant c h =
    let gone : PolicyRow → Outcome = λ l. accepted state.rows (Drop PolicyKind l.id ∷ []) (λ after. NoRow) in
    let rest : PolicyRow → Outcome = λ l. unless (deletion_refusal state caller l) (gone l) in
    let found = needing_moved (not_found PolicyKind name.text) (policy_seen state.rows caller name.id) rest rows reply h in
    let l : PolicyRow = found.0 in
    let here = named_is (λ (q : PolicyRow). q.id) (λ (q : PolicyRow). is_own caller q.project) state.rows.policies name.id l found.1 in
    let passed = unless_moved (deletion_refusal state caller l) (gone l) rows reply found.2 in
    subst (Spares caller.project state.rows) (moved_rows (without_row state.rows PolicyKind l.id) rows _ reply passed.1)
    (with_policies caller.project state.rows (gone_from (λ (q : PolicyRow). q.id) l.id state.rows.policies)
    (others_gone (others (λ (x : PolicyRow). x.project) caller.project) (λ (q : PolicyRow). ident_eq l.id q.id) state.rows.policies
    (none_of_others (λ (q : PolicyRow). q.id) (λ (q : PolicyRow). q.project) caller.project l.id state.rows.policies
    (own_alone (λ (q : PolicyRow). q.id) (λ (q : PolicyRow). q.project) caller.project state.rows.policies here.place l (omega (arith, c.numbered.ids l.id)) here.at (own_tenant caller l.project tenant here.is_seen)))))
