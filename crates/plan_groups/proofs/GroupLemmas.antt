-- Where calls on groups lead whose parts are known.
use Rattle.std.proofs.Common.{◌≡◌, ◌∙◌, ◌+◌, ℕ, List, [], ◌∷◌, Option, Some, None, ap, sym, inl, inr, arith}
use Rattle.std.specs.Prelude.{◌⊎◌}
use Rattle.api_policy.specs.Seen.{group_seen}
use Rattle.api_types.specs.Outcome.{Moved, Outcome, Refused}
use Rattle.api_types.specs.Printed.{NewRow, OneRow}
use Rattle.api_types.specs.Refusing.{needing, not_found, unless}
use Rattle.api_types.specs.Registration.{Drawing, drawn_id, ident}
use Rattle.api_types.specs.RowLists.{RowLists}
use Rattle.api_types.specs.declared.call.Caller.{Caller}
use Rattle.api_types.specs.declared.call.IdText.{IdText}
use Rattle.api_types.specs.declared.form.GroupForm.{GroupForm}
use Rattle.api_types.specs.declared.group.GroupRow.{GroupRow}
use Rattle.api_types.specs.declared.kind.Kind.TheVariants.{Group as GroupKind}
use Rattle.api_types.specs.declared.kind.Row.TheVariants.{Group}
use Rattle.api_types.specs.declared.refusal.Refusal.{Refusal}
use Rattle.api_types.specs.declared.refusal.Refusal.TheVariants.{CountersSpent, OutOfMemory}
use Rattle.call_parts.specs.Answers.{IsRefusalIn, IsRefusalOf}
use Rattle.call_parts.specs.Edits.{Add, made}
use Rattle.api_types.specs.WithRows.{with_put}
use Rattle.call_parts.specs.State.{State, drawing_at}
use Rattle.net_settings.specs.Settings.{SettingsParts}
use Rattle.plan_groups.specs.GroupCalls.{changed_group, group_added, group_creation_refusal, group_made, group_replaced, group_shown, group_update_refusal, group_updated, new_group}
use Rattle.plan_groups.specs.NewGroup.{group_edits, rule_edits}

module _ (settings : SettingsParts) (state : State) (caller : Caller) (form : GroupForm) (owner : List ℕ) where
  abbrev refused : Option Refusal
  refused = group_creation_refusal settings state.rows caller form owner

  abbrev made_by : Option Refusal → Option Drawing → Outcome
  made_by refusal drew = unless refusal (needing CountersSpent drew (λ d. group_added caller d (new_group form owner (drawn_id d 0))))

  pub group_refused : (e : Refusal) → IsRefusalIn refused e → IsRefusalOf (group_made settings state caller form owner) e
  group_refused e (inl memory) = inl memory
  group_refused e (inr is) = inr (ap (λ r. made_by r (drawing_at state owner 3)) is)

  module _ (passed : refused ≡ None) where
    pub group_spent : (e : Refusal) → (e ≡ OutOfMemory) ⊎ ((e ≡ CountersSpent) × (drawing_at state owner 3 ≡ None)) → IsRefusalOf (group_made settings state caller form owner) e
    group_spent e (inl memory) = inl memory
    group_spent e (inr spent) = inr ((λ j. made_by (passed j) (spent.1 j)) ∙ ap Refused (sym spent.0))

    pub group_leads : (d : Drawing) (g : GroupRow) (rows : RowLists) → drawing_at state owner 3 ≡ Some d → g ≡ new_group form owner (drawn_id d 0) → rows ≡ made d.rows (group_edits g d)
        → group_made settings state caller form owner ≡ Moved rows (NewRow (group_shown rows caller g []))
    group_leads d g rows drew is leads =
        (λ j. made_by (passed j) (drew j)) ∙ (ap (group_added caller d) (sym is) ∙ ap (λ r. Moved r (NewRow (group_shown r caller g []))) (sym leads))

-- the rules of a new group have the ids behind its own
pub added_with_rules : (rows : RowLists) (g made_group : GroupRow) (d : Drawing) → g ≡ made_group
    → made rows (Add (Group made_group) ∷ rule_edits made_group (ident d.ordinal (d.first + 1)) (ident d.ordinal (d.first + 1 + 1))) ≡ made rows (group_edits g d)
added_with_rules rows g made_group d is =
    let last : d.first + 1 + 1 ≡ d.first + 2 = omega arith in
    λ j. made rows (Add (Group (sym is j)) ∷ rule_edits (sym is j) (ident d.ordinal (d.first + 1)) (ident d.ordinal (last j)))

module _ (state : State) (caller : Caller) (name : IdText) (form : GroupForm) (g : GroupRow) (found : group_seen state.rows caller name.id ≡ Some g) where
  abbrev changed_by : Option GroupRow → Outcome
  changed_by o = needing (not_found GroupKind name.text) o (λ r. unless (group_update_refusal state caller form r) (group_replaced caller state.rows (changed_group form r)))

  pub update_refused : (e : Refusal) → IsRefusalIn (group_update_refusal state caller form g) e → IsRefusalOf (group_updated state caller name form) e
  update_refused e (inl memory) = inl memory
  update_refused e (inr is) = inr (ap changed_by found ∙ ap (λ r. unless r (group_replaced caller state.rows (changed_group form g))) is)

  pub update_leads : group_update_refusal state caller form g ≡ None → (begun after : RowLists) (changed kept : GroupRow) → begun ≡ state.rows → changed ≡ changed_group form g → kept ≡ changed
      → after ≡ with_put begun (Group changed) → group_updated state caller name form ≡ Moved after (OneRow (group_shown after caller kept []))
  update_leads passed begun after changed kept begins is same leads =
      let to : after ≡ with_put state.rows (Group (changed_group form g)) = leads ∙ (λ j. with_put (begins j) (Group (is j))) in
      ap changed_by found ∙ (ap (λ r. unless r (group_replaced caller state.rows (changed_group form g))) passed ∙ (λ j. Moved (sym to j) (OneRow (group_shown (sym to j) caller (sym (same ∙ is) j) []))))
