-- Accepted calls that change a floating address or take one out keep rows consistent.
use Rattle.std.proofs.Common.{◌≡◌, ◌≤◌, ◌∙◌, ℕ, List, [], ◌∷◌, Bool, true, false, cond, Option, Some, None, slice_get, slice_set, remove, refl, ap, sym, subst, arith, ◌<◌, ◌^◌}
use Rattle.std.specs.Prelude.{option_and_then, not, count_by, codes}
use Rattle.net_settings.specs.Settings.{SettingsParts}
use Rattle.api_types.specs.Ident.{Ident}
use Rattle.api_types.specs.Lists.{Each, if_some}
use Rattle.api_types.specs.Outcome.{Moved, Outcome}
use Rattle.api_types.specs.Printed.{NoRow, OneRow, Reply}
use Rattle.api_types.specs.RowLists.{RowLists}
use Rattle.api_types.specs.Table.{ident_eq}
use Rattle.api_types.specs.Consistent.{IsConsistent}
use Rattle.api_types.specs.Consistent.Floating.{leads_to, stands_for}
use Rattle.api_types.specs.declared.call.Caller.{Caller}
use Rattle.api_types.specs.declared.call.IdText.{IdText}
use Rattle.api_types.specs.declared.floating.FloatingRow.{FloatingRow}
use Rattle.api_types.specs.declared.floating.Target.{Target}
use Rattle.api_types.specs.declared.form.FloatingForm.{FloatingForm}
use Rattle.api_types.specs.declared.form.Given.{Given}
use Rattle.api_types.specs.declared.form.Given.TheVariants.{Absent, Is, Null}
use Rattle.api_policy.specs.Visibility.{is_own}
use Rattle.api_types.specs.Given.{value_of, value_or}
use Rattle.api_types.specs.Refusing.{needing, not_found, unless, when}
use Rattle.call_parts.specs.State.{State, is_last}
use Rattle.kept_laws.proofs.OutcomeLemmas.{moved_rows, named_is, needing_moved, none_first, unless_moved}
use Rattle.api_types.specs.declared.kind.Kind.TheVariants.{Floating as FloatingKind, Port as PortKind}
use Rattle.api_types.specs.declared.kind.Row.TheVariants.{Floating}
use Rattle.api_types.specs.declared.refusal.Refusal.TheVariants.{CountersSpent, Invalid}
use Rattle.api_ml2.specs.Carrying.{carries}
use Rattle.kept_laws.proofs.TypedKept.{HaveKept}
use Rattle.row_laws.specs.Replaced.{IsRedirected}
use Rattle.row_laws.proofs.PortsGone.{are_carried}
use Rattle.row_laws.proofs.Service.FloatingOff.{floating_off}
use Rattle.row_laws.proofs.FloatingReplaced.{floating_replaced as replaced_kept}
use Rattle.api_types.proofs.ListLemmas.{count-none, sum-remove, sum-set, each-filter}
use Rattle.api_types.proofs.NameLemmas.{by_test, count-set, ident_itself}
use Rattle.api_types.specs.Association.{Aim, with_target}
use Rattle.call_parts.specs.Edits.{Drop, Put, accepted}
use Rattle.api_types.specs.WithRows.{gone_from}
use Rattle.plan_floatings.specs.FloatingCalls.{aim_asked, changed_floating, deletion_refusal, floating_changed, floating_deleted, floating_replaced, floating_shown, floating_updated, lacks_port, port_asked, target_after, update_refusal}
use Rattle.call_parts.specs.BodyNames.{unless_found}
use Rattle.api_policy.specs.Permits.{owner_only}
use Rattle.plan_floatings.specs.FloatingRules.{bad_aim}
use Rattle.api_policy.specs.Seen.{floating_seen}
use Rattle.api_policy.specs.Uses.{aim_in_use}
use Rattle.plan_floatings.proofs.AimsKept.{aim_is, goal_alone, goal_leads, target_moved}
use Rattle.kept_laws.proofs.CallLemmas.{floating_put}
use Rattle.kept_laws.proofs.EditLemmas.{gone-remove}
use Rattle.api_types.specs.declared.port.PortRow.{PortRow}

-- where a floating address is put that passes only where no other one does, at most one passes
once_put : (floatings : List FloatingRow) (place : ℕ) (old new : FloatingRow) → slice_get floatings place ≡ Some old → count_by (λ g. ident_eq old.id g.id) floatings ≤ 1 → (test : FloatingRow → Bool) → count_by test floatings ≤ 1
    → (test new ≡ true → Each (λ g. test g ≡ false) (gone_from (λ g. g.id) old.id floatings)) → count_by test (slice_set floatings place new) ≤ 1
once_put floatings place old new at own test once alone =
    let put = sum-set (λ g. cond {A = ℕ} (test g) 1 0) floatings place old new at in
    by_test (test new) (count_by test (slice_set floatings place new) ≤ 1)
    (λ passes.
    let gone = gone-remove (λ (g : FloatingRow). g.id) floatings place old at old.id (ident_itself old.id) own in
    let none : count_by test (remove floatings place) ≡ 0 = ap (count_by test) (sym gone) ∙ count-none test (gone_from (λ g. g.id) old.id floatings) (alone passes) in
    let taken = sum-remove (λ g. cond {A = ℕ} (test g) 1 0) floatings place old at in
    let one : cond {A = ℕ} (test new) 1 0 ≡ 1 = ap (λ (b : Bool). cond {A = ℕ} b 1 0) passes in
    omega (arith, put, none, taken, one))
    (λ fails.
    let zeros : cond {A = ℕ} (test new) 1 0 ≡ 0 = ap (λ (b : Bool). cond {A = ℕ} b 1 0) fails in
    omega (arith, put, zeros, once))

module _ (rows : RowLists) (c : IsConsistent rows) (caller : Caller) (place : ℕ) (f : FloatingRow) (at : slice_get rows.floatings place ≡ Some f) (description : List ℕ) (target : Option Target) where
  abbrev others : List FloatingRow
  others = gone_from (λ g. g.id) f.id rows.floatings

  abbrev new_by : Given Ident → FloatingRow
  new_by given = record f { description = description; target = target_after given f.target target }

  leads_after : (given : Given Ident) → if_some (leads_to rows.ports rows.routers f) target ≡ true → if_some (leads_to rows.ports rows.routers f) (new_by given).target ≡ true
  leads_after Absent h = c.floatings.targets place f at
  leads_after Null h = h
  leads_after (Is i) h = h

  once_after : (given : Given Ident) → ((g : FloatingRow) → g.target ≡ target → g.network ≡ f.network → (n port : Ident) (x : ℕ) → stands_for n port x g ≡ true → Each (λ e. stands_for n port x e ≡ false) others)
      → (n port : Ident) (x : ℕ) → count_by (stands_for n port x) (slice_set rows.floatings place (new_by given)) ≤ 1
  once_after Absent alone n port x =
      let same = count-set (stands_for n port x) rows.floatings place f (new_by Absent) at refl in
      omega (arith, same, c.floatings.once n port x)
  once_after Null alone n port x = once_put rows.floatings place f (new_by Null) at (omega (arith, c.numbered.ids f.id)) (stands_for n port x) (c.floatings.once n port x) (alone (new_by Null) refl refl n port x)
  once_after (Is i) alone n port x = once_put rows.floatings place f (new_by (Is i)) at (omega (arith, c.numbered.ids f.id)) (stands_for n port x) (c.floatings.once n port x) (alone (new_by (Is i)) refl refl n port x)

-- what holds where nothing forbids the change
pub record IsAssociable (rows : RowLists) (caller : Caller) (form : FloatingForm) (f : FloatingRow) : Type 0 where
  pub good : option_and_then (bad_aim f.project (value_of form.fixed_ip_address)) (port_asked rows caller form) ≡ None
  pub free : option_and_then (aim_in_use rows caller (gone_from (λ g. g.id) f.id rows.floatings) f.network) (aim_asked rows caller form) ≡ None

associable_is : (state : State) (caller : Caller) (form : FloatingForm) (f : FloatingRow) → update_refusal state caller form f ≡ None → IsAssociable state.rows caller form f
associable_is state caller form f h =
    let taken = option_and_then (aim_in_use state.rows caller (gone_from (λ g. g.id) f.id state.rows.floatings) f.network) (aim_asked state.rows caller form) in
    let own = owner_only caller f.project in
    let found = unless_found PortKind (value_of form.port_id) (port_asked state.rows caller form) in
    let bad = option_and_then (bad_aim f.project (value_of form.fixed_ip_address)) (port_asked state.rows caller form) in
    let first = none_first bad (found ∷ own ∷ taken ∷ []) h in
    let second = none_first found (own ∷ taken ∷ []) first.1 in
    let third = none_first own (taken ∷ []) second.1 in
    record { good = first.0; free = (none_first taken [] third.1).0 }

pub floating_updated_kept : (settings : SettingsParts) (state : State) (caller : Caller) (name : IdText) (form : FloatingForm) (rows : RowLists) (reply : Reply) → IsConsistent state.rows
    → floating_updated state caller name form ≡ Moved rows reply → HaveKept settings state.rows rows
floating_updated_kept settings state caller name form rows reply c h =
    let first = unless_moved (when (lacks_port form) (Invalid (codes "fixed_ip_address"))) (needing (not_found FloatingKind name.text) (floating_seen state.rows caller name.id) (floating_changed state caller form)) rows reply h in
    let found = needing_moved (not_found FloatingKind name.text) (floating_seen state.rows caller name.id) (floating_changed state caller form) rows reply first.1 in
    let f : FloatingRow = found.0 in
    let here = named_is (λ (g : FloatingRow). g.id) (λ (g : FloatingRow). is_own caller g.project) state.rows.floatings name.id f found.1 in
    let aim : Option Aim = aim_asked state.rows caller form in
    let rest : Option Target → Outcome = λ target. floating_replaced state caller (changed_floating form f target) in
    let passed = unless_moved (update_refusal state caller form f) (with_target state.rows f.project f.network aim rest) rows reply found.2 in
    let may = associable_is state caller form f passed.0 in
    let goal = target_moved state.rows f.project f.network aim rest rows reply passed.1 in
    let target : Option Target = goal.0 in
    let new : FloatingRow = changed_floating form f target in
    let last = unless_moved (when (is_last state) CountersSpent) (accepted state.rows (Put (Floating new) ∷ []) (λ after. OneRow (floating_shown after caller new []))) rows reply goal.2 in
    let is : IsRedirected state.rows here.place new = record {
      leads = leads_after state.rows c caller here.place f here.at (value_or f.description form.description) target form.port_id
          (goal_leads state.rows f.project f.network aim target (λ a is. aim_is state.rows caller form f.project a is may.good) goal.1 f refl refl);
      once = once_after state.rows c caller here.place f here.at (value_or f.description form.description) target form.port_id
          (goal_alone state.rows caller (gone_from (λ g. g.id) f.id state.rows.floatings) f.project f.network aim target goal.1 may.free);
    } in
    subst (HaveKept settings state.rows) (moved_rows _ rows _ reply last.1) (record {
      consistent = subst (λ floatings. IsConsistent (record state.rows { floatings = floatings })) (sym (floating_put state.rows c here.place f new here.at refl))
          (replaced_kept state.rows here.place f new here.at (record { id = refl; project = refl; network = refl; own_port = refl; address = refl }) is c);
      carried = λ held. held;
      typed = λ held. record { prefixes = held.prefixes; macs = held.macs };
    })

pub floating_deleted_kept : (settings : SettingsParts) (state : State) (caller : Caller) (name : IdText) (rows : RowLists) (reply : Reply) → IsConsistent state.rows → floating_deleted state caller name ≡ Moved rows reply → HaveKept settings state.rows rows
floating_deleted_kept settings state caller name rows reply c h =
    let gone : FloatingRow → Outcome = λ f. accepted state.rows (Drop PortKind f.own_port ∷ Drop FloatingKind f.id ∷ []) (λ after. NoRow) in
    let found = needing_moved (not_found FloatingKind name.text) (floating_seen state.rows caller name.id) (λ f. unless (deletion_refusal state caller f) (gone f)) rows reply h in
    let f : FloatingRow = found.0 in
    let here = named_is (λ (g : FloatingRow). g.id) (λ (g : FloatingRow). is_own caller g.project) state.rows.floatings name.id f found.1 in
    let passed = unless_moved (deletion_refusal state caller f) (gone f) rows reply found.2 in
    subst (HaveKept settings state.rows) (moved_rows _ rows _ reply passed.1) (record {
      consistent = floating_off state.rows here.place f here.at c;
      carried = are_carried (λ p. not (ident_eq f.own_port p.id)) state.rows.ports (carries settings.hosts);
      typed = λ held. record { prefixes = held.prefixes; macs = each-filter (λ (q : PortRow). not (ident_eq f.own_port q.id)) (λ (q : PortRow). q.mac < 2 ^ 48) (λ (q : PortRow). q.mac < 2 ^ 48) state.rows.ports (λ q kept is. is) held.macs };
    })
