-- Accepted calls on policies keep rows consistent.
use Rattle.kept_laws.proofs.FixedFits.{each_cons, each_none}
use Rattle.kept_laws.proofs.TypedKept.{HaveKept, IsTypedEdit, drawing_typed, made_typed}
use Rattle.std.proofs.Common.{lit<, Bool, List, None, Option, Some, ap, arith, cond, false, not, refl, remove, slice_get, slice_set, subst, sym, true, ◌∙◌, ◌∷◌, ◌≡◌, ◌≤◌, [], ℕ}
use Rattle.std.specs.Prelude.{codes, count_by, filter, find, option_and_then, option_map, ◌&&◌}
use Rattle.api_types.specs.Consistent.{IsConsistent}
use Rattle.api_types.specs.Consistent.Permitted.{same_policy}
use Rattle.api_types.specs.Ident.{Ident}
use Rattle.api_types.specs.Lists.{is_empty, times}
use Rattle.api_types.specs.Outcome.{Moved, Outcome}
use Rattle.api_types.specs.Printed.{NoRow, Reply}
use Rattle.api_types.specs.Registration.{Drawing, draw_of, drawn_id}
use Rattle.api_types.specs.RowLists.{RowLists}
use Rattle.api_types.specs.Sharing.{grants, is_granted}
use Rattle.api_types.specs.Table.{ident_eq, row_of}
use Rattle.api_types.specs.declared.call.Call.TheVariants.{Create}
use Rattle.api_types.specs.declared.call.Caller.{Caller}
use Rattle.api_types.specs.declared.call.IdText.{IdText}
use Rattle.api_types.specs.declared.form.Form.TheVariants.{Policy as PolicyOf}
use Rattle.api_types.specs.declared.form.PolicyForm.{PolicyForm}
use Rattle.api_types.specs.declared.kind.Kind.TheVariants.{Network as NetworkKind, Policy as PolicyKind}
use Rattle.api_types.specs.declared.kind.Row.TheVariants.{Policy}
use Rattle.api_types.specs.declared.network.NetworkRow.{NetworkRow}
use Rattle.api_types.specs.declared.policy.Action.{Action}
use Rattle.api_types.specs.declared.policy.PolicyRow.{PolicyRow}
use Rattle.api_types.specs.declared.refusal.Refusal.TheVariants.{CountersSpent, Invalid}
use Rattle.row_laws.specs.NewRows.{with_policy}
use Rattle.row_laws.proofs.DrawnKept.{draws, drawing_carried}
use Rattle.api_types.proofs.ListLemmas.{and_both, any-at, any-filter, any-set_same, at-any, count-none, false_true, one_row, remove-filter, sum-remove, sum-set}
use Rattle.api_types.proofs.NameLemmas.{by_test, first_fails, ident_itself, ident_same, not_false}
use Rattle.row_laws.proofs.PoliciesGone.{policies_gone}
use Rattle.row_laws.proofs.PolicyPushed.{policy_pushed}
use Rattle.row_laws.proofs.PolicyReplaced.{policy_replaced as policy_kept}
use Rattle.kept_laws.proofs.EditedRows.{none_refused, put_at}
use Rattle.kept_laws.proofs.GatewayStays.{unmapped}
use Rattle.kept_laws.proofs.PolicyPermits.{still_permitted}
use Rattle.call_parts.specs.BodyNames.{no_id, text_of}
use Rattle.call_parts.specs.Edits.{Add, Drop, Put, accepted}
use Rattle.api_types.specs.WithRows.{gone_from, put_in, with_put, without_row}
use Rattle.call_parts.specs.InForm.{IsFormed, are_owners, is_there}
use Rattle.api_policy.specs.Permits.{admin_only, network_owner, owner_only}
use Rattle.plan_policies.specs.PolicyCalls.{changed_policy, creation_refusal, deletion_refusal, equal_policy, new_policy, policy_added, policy_created, policy_deleted, policy_exists, policy_made, policy_replaced, policy_updated, update_refusal}
use Rattle.api_policy.specs.PolicyNeeds.{policy_user}
use Rattle.api_policy.specs.Quotas.{over_quota}
use Rattle.api_policy.specs.Seen.{network_seen, policy_seen}
use Rattle.api_policy.specs.Uses.{policy_in_use}
use Rattle.api_policy.specs.Visibility.{is_own, sees_network}
use Rattle.kept_laws.proofs.OutcomeLemmas.{found_at, if_some as if_some_moved, moved_rows, named_is, needing_moved, unfound, unless_moved}
use Rattle.api_types.specs.Given.{are_unlike, owner_of, value_of}
use Rattle.api_types.specs.Refusing.{needing, not_found, unless, when}
use Rattle.call_parts.specs.State.{State, drawing_at, is_last}
use Rattle.net_settings.specs.Settings.{SettingsParts}
use Rattle.api_ml2.specs.Carrying.{carries}
use Rattle.api_policy.specs.Reserved.{policy_for_admin}
use Rattle.call_parts.proofs.OwnerLemmas.{owner_named}
use Rattle.kept_laws.proofs.PolicyAlike.{said_alike}

-- where none of some policies says the same as a new one, none says what it says
pub alone_among : (policies : List PolicyRow) (l : PolicyRow) → find (λ q. same_policy q l) policies ≡ None → (p : PolicyRow) → same_policy p l ≡ true → count_by (same_policy p) policies ≡ 0
alone_among policies l none p said = count-none (same_policy p) policies (λ k q at. by_test (same_policy p q) (same_policy p q ≡ false)
    (λ alike. false_true _ (sym (unfound (λ q. same_policy q l) policies none k q at) ∙ said_alike p q l said alike))
    (λ fails. fails))

-- where a network's policies alone change, what is granted on another one is as it was
module _ (policies : List PolicyRow) (place : ℕ) (old : PolicyRow) (at : slice_get policies place ≡ Some old) (n : NetworkRow) (object : old.object ≡ n.id) where
  elsewhere : (action : Action) (network : Ident) (project : List ℕ) (l : PolicyRow) → l.object ≡ old.object → ident_eq network n.id ≡ false → grants action network project l ≡ false
  elsewhere action network project l same away = first_fails (ident_eq network l.object) _ (ap (ident_eq network) (same ∙ object) ∙ away)

  pub set_same : (new : PolicyRow) → new.object ≡ old.object → (action : Action) (network : Ident) (project : List ℕ) → ident_eq network n.id ≡ false → is_granted (slice_set policies place new) action network project ≡ is_granted policies action network project
  set_same new same action network project away =
      any-set_same (grants action network project) policies place old new at (elsewhere action network project new same away ∙ sym (elsewhere action network project old refl away))

  pub gone_same : ((i : Ident) → times (λ (l : PolicyRow). l.id) i policies ≤ 1) → (action : Action) (network : Ident) (project : List ℕ) → ident_eq network n.id ≡ false
      → is_granted (filter (λ (l : PolicyRow). not (ident_eq old.id l.id)) policies) action network project ≡ is_granted policies action network project
  gone_same once action network project away = any-filter (λ (l : PolicyRow). not (ident_eq old.id l.id)) (grants action network project) policies (λ k l at_l goes.
      let one = one_row (λ (q : PolicyRow). ident_eq old.id q.id) policies (once old.id) place k old l at at_l (ident_itself old.id) (not_false (ident_eq old.id l.id) goes) in
      elsewhere action network project l (ap (λ (q : PolicyRow). q.object) (sym one)) away)

-- the network of a policy, on which no port needs what other policies lack
module _ (rows : RowLists) (caller : Caller) (c : IsConsistent rows) (place : ℕ) (old : PolicyRow) (at : slice_get rows.policies place ≡ Some old) where
  unused_is : (policies : List PolicyRow) → policy_in_use rows caller policies old ≡ None → (l : ℕ) × (n : NetworkRow) × (slice_get rows.networks l ≡ Some n) × (old.object ≡ n.id) × (policy_user rows policies n ≡ None)
  unused_is policies h = by (row_of (λ (n : NetworkRow). n.id) old.object rows.networks) refl (unmapped _ (option_and_then (policy_user rows policies) (row_of (λ (n : NetworkRow). n.id) old.object rows.networks)) h)
    where
      by : (o : Option NetworkRow) → row_of (λ (n : NetworkRow). n.id) old.object rows.networks ≡ o → option_and_then (policy_user rows policies) o ≡ None
          → (l : ℕ) × (n : NetworkRow) × (slice_get rows.networks l ≡ Some n) × (old.object ≡ n.id) × (policy_user rows policies n ≡ None)
      by None e h =
          let found = any-at (λ (n : NetworkRow). ident_eq old.object n.id) rows.networks (c.named.networks.of_policies place old at) in
          false_true _ (sym (unfound (λ (n : NetworkRow). ident_eq old.object n.id) rows.networks e found.0 found.1 found.2) ∙ found.3)
      by (Some n) e h =
          let found = found_at (λ (n : NetworkRow). ident_eq old.object n.id) rows.networks n e in
          (found.0, n, found.1, ident_same old.object n.id found.2, h)

  once : (i : Ident) → times (λ (l : PolicyRow). l.id) i rows.policies ≤ 1
  once i = omega (arith, c.numbered.ids i)

  -- a policy for another target
  pub changed_keeps : (new : PolicyRow) → new.id ≡ old.id → new.project ≡ old.project → new.object ≡ old.object → policy_in_use rows caller (put_in (λ q. q.id) new rows.policies) old ≡ None
      → equal_policy (gone_from (λ q. q.id) old.id rows.policies) new ≡ None → IsConsistent (with_put rows (Policy new))
  changed_keeps new id project object unused unlike =
      let set = put_at (λ (q : PolicyRow). q.id) rows.policies place old new at id once in
      let free = unused_is (slice_set rows.policies place new) (subst (λ policies. policy_in_use rows caller policies old ≡ None) set unused) in
      let n : NetworkRow = free.1 in
      subst (λ policies. IsConsistent (record rows { policies = policies })) (sym set) (policy_kept rows place old new at (record {
        id = id;
        project = project;
        object = object;
        once = λ p.
            let moved = sum-set (λ (q : PolicyRow). cond {A = ℕ} (same_policy p q) 1 0) rows.policies place old new at in
            let most = c.outsides.once p in
            by_test (same_policy p new) (count_by (same_policy p) (slice_set rows.policies place new) ≤ 1)
            (λ said.
            let left = sum-remove (λ (q : PolicyRow). cond {A = ℕ} (same_policy p q) 1 0) rows.policies place old at in
            let same = remove-filter (λ (q : PolicyRow). ident_eq old.id q.id) rows.policies place old at (ident_itself old.id) (once old.id) in
            let zeros : count_by (same_policy p) (remove rows.policies place) ≡ 0 = ap (count_by (same_policy p)) same ∙ alone_among (gone_from (λ (q : PolicyRow). q.id) old.id rows.policies) new unlike p said in
            let one : cond {A = ℕ} (same_policy p new) 1 0 ≡ 1 = ap (λ (b : Bool). cond {A = ℕ} b 1 0) said in
            omega (arith, moved, left, zeros, one))
            (λ other. let zero : cond {A = ℕ} (same_policy p new) 1 0 ≡ 0 = ap (λ (b : Bool). cond {A = ℕ} b 1 0) other in omega (arith, moved, zero, most));
        permitted = still_permitted rows c (slice_set rows.policies place new) free.0 n free.2 free.4 (set_same rows.policies place old at n free.3 new object);
      }) c)

  -- a policy goes
  pub gone_keeps : policy_in_use rows caller (gone_from (λ q. q.id) old.id rows.policies) old ≡ None → IsConsistent (without_row rows PolicyKind old.id)
  gone_keeps unused =
      let free = unused_is (gone_from (λ (q : PolicyRow). q.id) old.id rows.policies) unused in
      policies_gone (λ (q : PolicyRow). not (ident_eq old.id q.id)) rows
      (still_permitted rows c (gone_from (λ (q : PolicyRow). q.id) old.id rows.policies) free.0 free.1 free.2 free.4 (gone_same rows.policies place old at free.1 free.3 once)) c

pub updated_kept : (settings : SettingsParts) (state : State) (caller : Caller) (name : IdText) (form : PolicyForm) (rows : RowLists) (reply : Reply) → IsConsistent state.rows → policy_updated state caller name form ≡ Moved rows reply → HaveKept settings state.rows rows
updated_kept settings state caller name form rows reply c h =
    let set : PolicyRow → Outcome = λ l. policy_replaced caller state.rows (changed_policy form l) in
    let rest : PolicyRow → Outcome = λ l. unless (update_refusal state caller form l (changed_policy form l)) (set l) in
    let found = needing_moved (not_found PolicyKind name.text) (policy_seen state.rows caller name.id) rest rows reply h in
    let l : PolicyRow = found.0 in
    let new : PolicyRow = changed_policy form l in
    let here = named_is (λ (q : PolicyRow). q.id) (λ (q : PolicyRow). is_own caller q.project) state.rows.policies name.id l found.1 in
    let passed = unless_moved (update_refusal state caller form l new) (set l) rows reply found.2 in
    let of_use = policy_in_use state.rows caller (put_in (λ q. q.id) new state.rows.policies) l in
    let of_equal = option_map policy_exists (equal_policy (gone_from (λ q. q.id) l.id state.rows.policies) new) in
    let none = none_refused (admin_only caller (policy_for_admin caller form) ∷ owner_only caller l.project ∷ of_use ∷ of_equal ∷ when (is_last state) CountersSpent ∷ []) passed.0 in
    subst (HaveKept settings state.rows) (moved_rows (with_put state.rows (Policy new)) rows _ reply passed.1) (record {
      consistent = changed_keeps state.rows caller c here.place l here.at new refl refl refl (none 2 of_use refl) (unmapped policy_exists (equal_policy (gone_from (λ q. q.id) l.id state.rows.policies) new) (none 3 of_equal refl));
      typed = λ t. made_typed state.rows (Put (Policy new) ∷ []) t (each_cons IsTypedEdit (Put (Policy new)) [] tt (each_none IsTypedEdit));
      carried = λ held. held;
    })

pub deleted_kept : (settings : SettingsParts) (state : State) (caller : Caller) (name : IdText) (rows : RowLists) (reply : Reply) → IsConsistent state.rows → policy_deleted state caller name ≡ Moved rows reply → HaveKept settings state.rows rows
deleted_kept settings state caller name rows reply c h =
    let gone : PolicyRow → Outcome = λ l. accepted state.rows (Drop PolicyKind l.id ∷ []) (λ rows. NoRow) in
    let rest : PolicyRow → Outcome = λ l. unless (deletion_refusal state caller l) (gone l) in
    let found = needing_moved (not_found PolicyKind name.text) (policy_seen state.rows caller name.id) rest rows reply h in
    let l : PolicyRow = found.0 in
    let here = named_is (λ (q : PolicyRow). q.id) (λ (q : PolicyRow). is_own caller q.project) state.rows.policies name.id l found.1 in
    let passed = unless_moved (deletion_refusal state caller l) (gone l) rows reply found.2 in
    let of_use = policy_in_use state.rows caller (gone_from (λ q. q.id) l.id state.rows.policies) l in
    let none = none_refused (owner_only caller l.project ∷ of_use ∷ when (is_last state) CountersSpent ∷ []) passed.0 in
    subst (HaveKept settings state.rows) (moved_rows (without_row state.rows PolicyKind l.id) rows NoRow reply passed.1) (record {
      consistent = gone_keeps state.rows caller c here.place l here.at (none 1 of_use refl);
      typed = λ t. made_typed state.rows (Drop PolicyKind l.id ∷ []) t (each_cons IsTypedEdit (Drop PolicyKind l.id) [] tt (each_none IsTypedEdit));
      carried = λ held. held;
    })

pub created_kept : (settings : SettingsParts) (state : State) (caller : Caller) (form : PolicyForm) (rows : RowLists) (reply : Reply) → IsConsistent state.rows → IsFormed caller (Create (PolicyOf form))
    → policy_created settings state caller form ≡ Moved rows reply → HaveKept settings state.rows rows
created_kept settings state caller form rows reply c given h =
    let of_call = and_both (not (is_empty caller.project)) _ given in
    let owners = (and_both (is_there form.object_type && is_there form.object_id && is_there form.action && is_there form.target_tenant) (are_owners form.project_id form.tenant_id) of_call.1).1 in
    let owner : List ℕ = owner_of caller form.project_id form.tenant_id in
    let add : NetworkRow → Drawing → Outcome = λ n d. policy_added caller d.rows (new_policy form owner n.id (drawn_id d 0)) in
    let draw : NetworkRow → Outcome = λ n. needing CountersSpent (drawing_at state owner 1) (add n) in
    let rest : NetworkRow → Outcome = λ n. unless (creation_refusal settings state.rows caller form owner n) (draw n) in
    let first = unless_moved (when (are_unlike form.project_id form.tenant_id) (Invalid (codes "tenant_id"))) (policy_made settings state caller form owner) rows reply h in
    let found = needing_moved (not_found NetworkKind (text_of (value_of form.object_id))) (network_seen state.rows caller (value_of form.object_id)) rest rows reply first.1 in
    let n : NetworkRow = found.0 in
    let here = named_is (λ (m : NetworkRow). m.id) (sees_network state.rows caller) state.rows.networks (value_of form.object_id) n found.1 in
    let passed = unless_moved (creation_refusal settings state.rows caller form owner n) (draw n) rows reply found.2 in
    let of_equal = option_map policy_exists (equal_policy state.rows.policies (new_policy form owner n.id no_id)) in
    let none = none_refused (admin_only caller (policy_for_admin caller form) ∷ network_owner state.rows caller true n.id ∷ of_equal ∷ over_quota settings state.rows owner PolicyKind ∷ []) passed.0 in
    let unlike = unmapped policy_exists (equal_policy state.rows.policies (new_policy form owner n.id no_id)) (none 2 of_equal refl) in
    let drawing = needing_moved CountersSpent (drawing_at state owner 1) (add n) rows reply passed.1 in
    let d : Drawing = drawing.0 in
    let drawn = draws state.rows owner 1 d c (owner_named caller form.project_id form.tenant_id of_call.0 owners) (lit< tt) (if_some_moved (is_last state) (draw_of state.rows owner 1) d drawing.1).1 in
    let l : PolicyRow = new_policy form owner n.id (drawn_id d 0) in
    subst (HaveKept settings state.rows) (moved_rows (with_policy d.rows l) rows _ reply drawing.2) (record {
      consistent = policy_pushed d.rows l (record {
        fresh = drawn.fresh 0 (lit< tt);
        drawn = drawn.drawn 0 (lit< tt);
        network = at-any (λ (m : NetworkRow). ident_eq n.id m.id) d.rows.networks here.place n (ap (λ networks. slice_get networks here.place) drawn.networks ∙ here.at) (ident_itself n.id);
        project = drawn.project;
        alone = λ p said. ap (count_by (same_policy p)) drawn.policies ∙ alone_among state.rows.policies (new_policy form owner n.id no_id) unlike p said;
      }) drawn.consistent;
      typed = λ t. made_typed d.rows (Add (Policy l) ∷ []) (drawing_typed state.rows owner 1 d drawn t) (each_cons IsTypedEdit (Add (Policy l)) [] tt (each_none IsTypedEdit));
      carried = drawing_carried (carries settings.hosts) state.rows owner 1 d drawn;
    })
