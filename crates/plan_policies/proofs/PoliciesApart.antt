-- A tenant is told the same of policies wherever its footing is the same.
use Rattle.std.proofs.Common.{◌≡◌, ◌+◌, List, ◌∷◌, Bool, true, false, Option, Some, None, slice_get, refl, ap, sym, ◌∙◌, arith, map, not, ℕ, []}
use Rattle.std.specs.Prelude.{◌&&◌, ◌||◌, codes, filter, option_and_then, option_map, if◌then◌else◌}
use Rattle.std.specs.Str.{bytes_eq}
use Rattle.call_parts.specs.BodyNames.{no_id, text_of}
use Rattle.call_parts.specs.Edits.{Drop, accepted}
use Rattle.api_types.specs.WithRows.{gone_from, put_in}
use Rattle.api_policy.specs.Permits.{admin_only, network_owner, owner_only}
use Rattle.plan_policies.specs.PolicyCalls.{changed_policy, creation_refusal, deletion_refusal, equal_policy, new_policy, policy_added, policy_created, policy_deleted, policy_exists, policy_made, policy_replaced, policy_updated, update_refusal}
use Rattle.api_policy.specs.PolicyNeeds.{policy_user}
use Rattle.api_policy.specs.Quotas.{over_quota}
use Rattle.api_policy.specs.Seen.{policy_seen}
use Rattle.api_policy.specs.Uses.{policy_in_use, used_by_port}
use Rattle.api_policy.specs.Visibility.{owns_network}
use Rattle.api_policy.specs.Policies.{policy_members}
use Rattle.api_policy.specs.Shown.{shown_as}
use Rattle.apart_laws.specs.Footing.{Held, blank, footing, is_held_by}
use Rattle.api_types.specs.Given.{are_unlike, is_for_other, owner_of, value_of, value_or}
use Rattle.api_types.specs.Refusing.{at_name, first_refusal, needing, not_found, answer_alone, unless, when}
use Rattle.call_parts.specs.State.{State, drawing_at}
use Rattle.api_types.specs.Consistent.{IsConsistent}
use Rattle.api_types.specs.Consistent.Permitted.{same_policy}
use Rattle.api_types.specs.Ident.{Ident}
use Rattle.api_types.specs.Lists.{Each}
use Rattle.api_types.specs.Outcome.{Outcome, Told}
use Rattle.api_types.specs.Printed.{NewRow, NoRow}
use Rattle.api_types.specs.Registration.{drawn_id, ident}
use Rattle.api_types.specs.RowLists.{RowLists}
use Rattle.api_types.specs.Sharing.{is_action}
use Rattle.api_types.specs.Table.{ident_eq, row_of}
use Rattle.api_types.specs.declared.call.Caller.{Caller}
use Rattle.api_types.specs.declared.call.IdText.{IdText}
use Rattle.api_types.specs.declared.form.PolicyForm.{PolicyForm}
use Rattle.api_types.specs.declared.kind.Kind.TheVariants.{Network as NetworkKind, Policy as PolicyKind}
use Rattle.api_types.specs.declared.network.NetworkRow.{NetworkRow}
use Rattle.api_types.specs.declared.policy.Action.TheVariants.{External, Shared}
use Rattle.api_types.specs.declared.policy.PolicyRow.{PolicyRow}
use Rattle.api_types.specs.declared.refusal.PolicyRule.TheVariants.{NetworkOwner}
use Rattle.api_types.specs.declared.refusal.Refusal.{Refusal}
use Rattle.api_types.specs.declared.refusal.Refusal.TheVariants.{CountersSpent, Forbidden, Invalid}
use Rattle.api_types.specs.declared.refusal.UseRule.TheVariants.{RbacPolicyInUse}
use Rattle.net_settings.specs.Settings.{SettingsParts}
use Rattle.api_types.proofs.ListLemmas.{and_both, at-any, both_and, one_row, or_none}
use Rattle.api_types.proofs.NameLemmas.{by_test, ident_itself, ident_same}
use Rattle.apart_laws.proofs.FootingLemmas.{named_alike, network_id, owner_own}
use Rattle.apart_laws.proofs.ListLemmas.{filter-both, filter-each, filter-map, filter-then, find-filter, find_here, or_left, or_right}
use Rattle.apart_laws.proofs.ApartLemmas.{first_same, head_none, needing_same, unless_same}
use Rattle.apart_laws.proofs.FoundTold.{found_there}
use Rattle.apart_laws.proofs.HeldAlike.{held_alike, policies_on, project_alike, use_alike}
use Rattle.apart_laws.proofs.OwnAlike.{admin_passes, drawn_alike, own_here, owns_alike, policies_alike, quota_own, when_true}
use Rattle.api_policy.specs.Reserved.{is_for_all, policy_for_admin}

abbrev pub policy_id : PolicyRow → Ident
policy_id l = l.id

-- the policies on a network, of those without one row, and with one row changed
gone_on : (i j : Ident) (policies : List PolicyRow) → policies_on i (gone_from policy_id j policies) ≡ gone_from policy_id j (policies_on i policies)
gone_on i j policies = filter-swap (λ (l : PolicyRow). ident_eq i l.object) (λ (l : PolicyRow). not (ident_eq j l.id)) policies
  where
    filter-swap : {R : Type 0} (p q : R → Bool) (xs : List R) → filter p (filter q xs) ≡ filter q (filter p xs)
    filter-swap p q xs = sym (filter-both p q xs) ∙ filter-then p q xs

put_on : (i : Ident) (new : PolicyRow) (policies : List PolicyRow) → Each (λ l. ident_eq new.id l.id ≡ true → ident_eq i new.object ≡ ident_eq i l.object) policies
    → policies_on i (put_in policy_id new policies) ≡ put_in policy_id new (policies_on i policies)
put_on i new policies kept = filter-map (λ (l : PolicyRow). ident_eq i l.object) change policies
    ∙ ap (map change) (filter-each (λ (l : PolicyRow). ident_eq i (change l).object) (λ (l : PolicyRow). ident_eq i l.object) policies
    (λ k l at. by_test (ident_eq new.id l.id) (ident_eq i (change l).object ≡ ident_eq i l.object)
    (λ is. ap (λ (b : Bool). ident_eq i (if b then new else l).object) is ∙ kept k l at is)
    (λ other. ap (λ (b : Bool). ident_eq i (if b then new else l).object) other)))
  where
    change : PolicyRow → PolicyRow
    change l = if ident_eq new.id l.id then new else l

-- an equal policy is on the same network
equal_on : (i : Ident) (l : PolicyRow) → ident_eq i l.object ≡ true → (policies : List PolicyRow) → equal_policy policies l ≡ equal_policy (policies_on i policies) l
equal_on i l on policies = sym (find-filter (λ (q : PolicyRow). ident_eq i q.object) (λ q. same_policy q l) policies
    (λ k q at equal. ap (ident_eq i) (ident_same q.object l.object (and_both (ident_eq q.object l.object) (is_action q.action l.action && bytes_eq q.target l.target) equal).0) ∙ on))

module _ (rows : RowLists) (caller : Caller) (c : IsConsistent rows) (k : ℕ) (l : PolicyRow) (at : slice_get rows.policies k ≡ Some l) (own : bytes_eq l.project caller.project ≡ true) where
  -- a network with a policy of the project is there, and is held by it
  policy_held : is_held_by rows caller.project l.object ≡ true
  policy_held = or_right _ _ (at-any (λ (q : PolicyRow). ident_eq l.object q.object && bytes_eq q.project caller.project) rows.policies k l at (both_and _ _ (ident_itself l.object) own))

  policy_network : (n : NetworkRow) × (row_of network_id l.object rows.networks ≡ Some n) × (l.object ≡ n.id)
  policy_network =
      let found = found_there (λ (n : NetworkRow). ident_eq l.object n.id) rows.networks (c.named.networks.of_policies k l at) in
      let here = find_here (λ (n : NetworkRow). ident_eq l.object n.id) rows.networks found.0 found.1 in
      (found.0, found.1, ident_same l.object found.0.id here.2)

module _ (settings : SettingsParts) (caller : Caller) (tenant : caller.admin ≡ false) (s t : State) (c : IsConsistent s.rows) (d : IsConsistent t.rows) (same : footing settings s caller ≡ footing settings t caller) where
  policy_found : (name : Option Ident) → policy_seen s.rows caller name ≡ policy_seen t.rows caller name
  policy_found name = ap (at_name policy_id name) (policies_alike settings caller tenant s t same)

  policies_on_alike : (i : Ident) → is_held_by s.rows caller.project i ≡ true → policies_on i s.rows.policies ≡ policies_on i t.rows.policies
  policies_on_alike i held = ap (λ (h : Held). h.policies) (held_alike settings caller tenant s t c d same i held)

  -- making a policy

  equal_same : (i : Ident) → is_held_by s.rows caller.project i ≡ true → (l : PolicyRow) → ident_eq i l.object ≡ true → (kept left : List PolicyRow) → policies_on i kept ≡ policies_on i left
      → equal_policy kept l ≡ equal_policy left l
  equal_same i held l on kept left alike = equal_on i l on kept ∙ (ap (λ ps. equal_policy ps l) alike ∙ sym (equal_on i l on left))

  creation_same : (form : PolicyForm) (owner : List ℕ) (n m : NetworkRow) → blank n ≡ blank m → (admin_only caller (policy_for_admin caller form) ≡ None → owner ≡ caller.project)
      → creation_refusal settings s.rows caller form owner n ≡ creation_refusal settings t.rows caller form owner m
  creation_same form owner n m alike mine =
      first_same admin admin
      (network_owner s.rows caller true n.id ∷ option_map policy_exists (equal_policy s.rows.policies (new_policy form owner n.id no_id)) ∷ over_quota settings s.rows owner PolicyKind ∷ [])
      (network_owner t.rows caller true m.id ∷ option_map policy_exists (equal_policy t.rows.policies (new_policy form owner m.id no_id)) ∷ over_quota settings t.rows owner PolicyKind ∷ []) refl
      (λ passes also. first_same (network_owner s.rows caller true n.id) (network_owner t.rows caller true m.id)
      (option_map policy_exists (equal_policy s.rows.policies (new_policy form owner n.id no_id)) ∷ over_quota settings s.rows owner PolicyKind ∷ [])
      (option_map policy_exists (equal_policy t.rows.policies (new_policy form owner m.id no_id)) ∷ over_quota settings t.rows owner PolicyKind ∷ [])
      (λ j. when (not (caller.admin || owns j)) (Forbidden NetworkOwner))
      (λ owner_passes _. let held = held_here owner_passes in
      let equal = equal_same n.id held (new_policy form owner n.id no_id) (ident_itself n.id) s.rows.policies t.rows.policies (policies_on_alike n.id held)
      ∙ ap (λ (x : NetworkRow). equal_policy t.rows.policies (new_policy form owner x.id no_id)) alike in
      let quota = quota_own settings caller tenant s t same owner (mine passes) PolicyKind in
      (λ j. first_refusal (option_map policy_exists (equal j) ∷ quota j ∷ []))))
    where
      admin : Option Refusal
      admin = admin_only caller (policy_for_admin caller form)

      owns : owns_network s.rows caller.project n.id ≡ owns_network t.rows caller.project m.id
      owns = owns_alike settings caller tenant s t same n.id ∙ ap (λ (x : NetworkRow). owns_network t.rows caller.project x.id) alike

      held_here : network_owner s.rows caller true n.id ≡ None → is_held_by s.rows caller.project n.id ≡ true
      held_here passes = or_left _ _ (sym (ap (λ b. b || owns_network s.rows caller.project n.id) tenant) ∙ when_true (caller.admin || owns_network s.rows caller.project n.id) (Forbidden NetworkOwner) passes)

  pub policy_created_apart : (form : PolicyForm) → answer_alone (policy_created settings s caller form) ≡ answer_alone (policy_created settings t caller form)
  policy_created_apart form = unless_same unlike unlike (policy_made settings s caller form owner) (policy_made settings t caller form owner) refl
      (λ likely _. named_alike settings caller s t same (not_found NetworkKind (text_of (value_of form.object_id))) (value_of form.object_id) (on s) (on t)
      (λ n m found_n found_m alike. unless_same (creation_refusal settings s.rows caller form owner n) (creation_refusal settings t.rows caller form owner m)
      (needing CountersSpent (drawing_at s owner 1) (λ drawing. policy_added caller drawing.rows (new_policy form owner n.id (drawn_id drawing 0))))
      (needing CountersSpent (drawing_at t owner 1) (λ drawing. policy_added caller drawing.rows (new_policy form owner m.id (drawn_id drawing 0))))
      (creation_same form owner n m alike mine)
      (λ passes _. drawn_alike settings caller tenant s t same owner (mine (head_none (admin_only caller (policy_for_admin caller form)) (rest_at s n) passes)) 1
      (λ drawing. policy_added caller drawing.rows (new_policy form owner n.id (drawn_id drawing 0))) (λ drawing. policy_added caller drawing.rows (new_policy form owner m.id (drawn_id drawing 0)))
      (λ x y at_x at_y counts. λ j. Told (NewRow (shown_as PolicyKind caller.admin [] (policy_members (new_policy form owner (alike j).id (ident (counts j).0 ((counts j).1 + 0))))))))))
    where
      owner : List ℕ
      owner = owner_of caller form.project_id form.tenant_id

      unlike : Option Refusal
      unlike = when (are_unlike form.project_id form.tenant_id) (Invalid (codes "tenant_id"))

      on : State → NetworkRow → Outcome
      on state n = unless (creation_refusal settings state.rows caller form owner n)
          (needing CountersSpent (drawing_at state owner 1) (λ drawing. policy_added caller drawing.rows (new_policy form owner n.id (drawn_id drawing 0))))

      rest_at : State → NetworkRow → List (Option Refusal)
      rest_at state n = network_owner state.rows caller true n.id ∷ option_map policy_exists (equal_policy state.rows.policies (new_policy form owner n.id no_id)) ∷ over_quota settings state.rows owner PolicyKind ∷ []

      mine : admin_only caller (policy_for_admin caller form) ≡ None → owner ≡ caller.project
      mine passes = owner_own caller form.project_id form.tenant_id
          (or_none (is_for_all form || is_action External (value_or Shared form.action)) (is_for_other caller form.project_id form.tenant_id) (admin_passes caller tenant (policy_for_admin caller form) passes)).1

  -- the use of a policy that goes or is changed, by policies that are alike on its network

  used_same : (name : Option Ident) (l : PolicyRow) → policy_seen s.rows caller name ≡ Some l → policy_seen t.rows caller name ≡ Some l → (kept left : List PolicyRow)
      → policies_on l.object kept ≡ policies_on l.object left → policy_in_use s.rows caller kept l ≡ policy_in_use t.rows caller left l
  used_same name l found_s found_t kept left alike =
      let here = own_here caller tenant policy_id (λ (r : PolicyRow). r.project) name s.rows.policies l found_s in
      let there = own_here caller tenant policy_id (λ (r : PolicyRow). r.project) name t.rows.policies l found_t in
      let n = policy_network s.rows caller c here.0 l here.1 here.2 in
      let m = policy_network t.rows caller d there.0 l there.1 there.2 in
      let held : is_held_by s.rows caller.project n.0.id ≡ true = ap (is_held_by s.rows caller.project) (sym n.2) ∙ policy_held s.rows caller c here.0 l here.1 here.2 in
      ap (λ o. option_map (used_by_port s.rows caller RbacPolicyInUse PolicyKind l.id) (option_and_then (policy_user s.rows kept) o)) n.1
      ∙ (use_alike settings caller tenant s t c d same RbacPolicyInUse PolicyKind l.id n.0 m.0 (sym n.2 ∙ m.2)
      (project_alike settings caller tenant s t c d same n.0 m.0 held (ap (λ i. row_of network_id i s.rows.networks) (sym n.2) ∙ n.1) (ap (λ i. row_of network_id i t.rows.networks) (sym n.2) ∙ m.1))
      held kept left (ap (λ i. policies_on i kept) (sym n.2) ∙ (alike ∙ ap (λ i. policies_on i left) m.2))
      ∙ sym (ap (λ o. option_map (used_by_port t.rows caller RbacPolicyInUse PolicyKind l.id) (option_and_then (policy_user t.rows left) o)) m.1))

  held_found : (name : Option Ident) (l : PolicyRow) → policy_seen s.rows caller name ≡ Some l → is_held_by s.rows caller.project l.object ≡ true
  held_found name l found = let here = own_here caller tenant policy_id (λ (r : PolicyRow). r.project) name s.rows.policies l found in policy_held s.rows caller c here.0 l here.1 here.2

  gone_same : (name : Option Ident) (l : PolicyRow) → policy_seen s.rows caller name ≡ Some l → policies_on l.object (gone_from policy_id l.id s.rows.policies) ≡ policies_on l.object (gone_from policy_id l.id t.rows.policies)
  gone_same name l found = gone_on l.object l.id s.rows.policies ∙ (ap (gone_from policy_id l.id) (policies_on_alike l.object (held_found name l found)) ∙ sym (gone_on l.object l.id t.rows.policies))

  put_same : (name : Option Ident) (l : PolicyRow) → policy_seen s.rows caller name ≡ Some l → policy_seen t.rows caller name ≡ Some l → (form : PolicyForm)
      → policies_on l.object (put_in policy_id (changed_policy form l) s.rows.policies) ≡ policies_on l.object (put_in policy_id (changed_policy form l) t.rows.policies)
  put_same name l found_s found_t form =
      put_at s c found_s ∙ (ap (put_in policy_id (changed_policy form l)) (policies_on_alike l.object (held_found name l found_s)) ∙ sym (put_at t d found_t))
    where
      put_at : (state : State) → IsConsistent state.rows → policy_seen state.rows caller name ≡ Some l
          → policies_on l.object (put_in policy_id (changed_policy form l) state.rows.policies) ≡ put_in policy_id (changed_policy form l) (policies_on l.object state.rows.policies)
      put_at state e found =
          let here = own_here caller tenant policy_id (λ (r : PolicyRow). r.project) name state.rows.policies l found in
          put_on l.object (changed_policy form l) state.rows.policies
          (λ k q at is. ap (λ (r : PolicyRow). ident_eq l.object r.object) (one_row (λ (r : PolicyRow). ident_eq l.id r.id) state.rows.policies (omega (arith, e.numbered.ids l.id)) here.0 k l q here.1 at (ident_itself l.id) is))

  -- changing a policy

  pub policy_updated_apart : (name : IdText) (form : PolicyForm) → answer_alone (policy_updated s caller name form) ≡ answer_alone (policy_updated t caller name form)
  policy_updated_apart name form = needing_same (not_found PolicyKind name.text) (policy_seen s.rows caller name.id) (policy_seen t.rows caller name.id)
      (λ l. unless (update_refusal s caller form l (changed_policy form l)) (policy_replaced caller s.rows (changed_policy form l)))
      (λ l. unless (update_refusal t caller form l (changed_policy form l)) (policy_replaced caller t.rows (changed_policy form l)))
      (policy_found name.id)
      (λ l found_s found_t. unless_same (update_refusal s caller form l (changed_policy form l)) (update_refusal t caller form l (changed_policy form l))
      (policy_replaced caller s.rows (changed_policy form l)) (policy_replaced caller t.rows (changed_policy form l))
      (let used = used_same name.id l found_s found_t (put_in policy_id (changed_policy form l) s.rows.policies) (put_in policy_id (changed_policy form l) t.rows.policies) (put_same name.id l found_s found_t form) in
      let equal = equal_same l.object (held_found name.id l found_s) (changed_policy form l) (ident_itself l.object) (gone_from policy_id l.id s.rows.policies) (gone_from policy_id l.id t.rows.policies) (gone_same name.id l found_s) in
      (λ j. first_refusal (admin_only caller (policy_for_admin caller form) ∷ owner_only caller l.project ∷ used j ∷ option_map policy_exists (equal j) ∷ when (same j).is_last CountersSpent ∷ [])))
      (λ passes also. refl))

  -- taking a policy out

  pub policy_deleted_apart : (name : IdText) → answer_alone (policy_deleted s caller name) ≡ answer_alone (policy_deleted t caller name)
  policy_deleted_apart name = needing_same (not_found PolicyKind name.text) (policy_seen s.rows caller name.id) (policy_seen t.rows caller name.id)
      (λ l. unless (deletion_refusal s caller l) (accepted s.rows (Drop PolicyKind l.id ∷ []) (λ rows. NoRow)))
      (λ l. unless (deletion_refusal t caller l) (accepted t.rows (Drop PolicyKind l.id ∷ []) (λ rows. NoRow)))
      (policy_found name.id)
      (λ l found_s found_t. unless_same (deletion_refusal s caller l) (deletion_refusal t caller l)
      (accepted s.rows (Drop PolicyKind l.id ∷ []) (λ rows. NoRow)) (accepted t.rows (Drop PolicyKind l.id ∷ []) (λ rows. NoRow))
      (let used = used_same name.id l found_s found_t (gone_from policy_id l.id s.rows.policies) (gone_from policy_id l.id t.rows.policies) (gone_same name.id l found_s) in
      (λ j. first_refusal (owner_only caller l.project ∷ used j ∷ when (same j).is_last CountersSpent ∷ [])))
      (λ passes also. refl))
