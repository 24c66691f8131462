-- Where the creation of a rule leads whose parts are known.
use Rattle.std.proofs.Common.{◌≡◌, ◌∙◌, [], ◌∷◌, Option, Some, None, ap, sym, inl, inr}
use Rattle.std.specs.Prelude.{◌⊎◌, option_to_list}
use Rattle.api_policy.specs.Seen.{group_seen, rule_seen}
use Rattle.api_types.specs.Given.{value_of}
use Rattle.api_types.specs.Outcome.{Moved, Outcome, Refused}
use Rattle.api_types.specs.Printed.{NewRow, NoRow}
use Rattle.api_types.specs.Refusing.{first_refusal, needing, not_found, unless}
use Rattle.api_types.specs.Registration.{Drawing, drawn_id}
use Rattle.api_types.specs.RowLists.{RowLists}
use Rattle.api_types.specs.declared.call.Caller.{Caller}
use Rattle.api_types.specs.declared.call.IdText.{IdText}
use Rattle.api_types.specs.declared.form.RuleForm.{RuleForm}
use Rattle.api_types.specs.declared.group.GroupRow.{GroupRow}
use Rattle.api_types.specs.declared.group.RuleRow.{RuleRow}
use Rattle.api_types.specs.declared.kind.Kind.TheVariants.{Group as GroupKind, Rule as RuleKind}
use Rattle.api_types.specs.declared.kind.Row.TheVariants.{Rule}
use Rattle.api_types.specs.declared.refusal.Refusal.{Refusal}
use Rattle.api_types.specs.declared.refusal.Refusal.TheVariants.{CountersSpent, OutOfMemory}
use Rattle.call_parts.specs.Answers.{IsOrMemory, IsRefusalIn, IsRefusalOf}
use Rattle.call_parts.specs.BodyNames.{no_id, text_of, unless_all}
use Rattle.call_parts.specs.Edits.{Drop, accepted}
use Rattle.api_types.specs.WithRows.{with_added, without_row}
use Rattle.call_parts.specs.State.{State, drawing_at}
use Rattle.net_settings.specs.Settings.{SettingsParts}
use Rattle.plan_groups.specs.GroupCalls.{is_remote_seen, rule_added, rule_body_refusal, rule_created, rule_creation_refusal, rule_deleted, rule_deletion_refusal, rule_shown}
use Rattle.plan_groups.specs.Open.{IsOpen}
use Rattle.api_secgroup.specs.RuleParts.{bad_part, new_rule}

module _ (settings : SettingsParts) (state : State) (caller : Caller) (form : RuleForm) where
  abbrev seen : Option GroupRow
  seen = group_seen state.rows caller (value_of form.security_group_id)

  -- what forbids the remote group, by the rule's group
  abbrev bad_remote : Option GroupRow → Option Refusal
  bad_remote group = unless_all GroupKind (is_remote_seen state.rows caller group) (option_to_list (value_of form.remote_group_id))

  abbrev in_group : GroupRow → Option Refusal → Option Drawing → Outcome
  in_group g refusal drew = unless refusal (needing CountersSpent drew (λ d. rule_added caller d.rows (new_rule form g (drawn_id d 0))))

  abbrev by_group : Option GroupRow → Outcome
  by_group group = needing (not_found GroupKind (text_of (value_of form.security_group_id))) group
      (λ g. in_group g (rule_creation_refusal settings state.rows caller g (new_rule form g no_id)) (drawing_at state g.project 1))

  abbrev of_group : Option GroupRow → Outcome
  of_group group = unless (rule_body_refusal state.rows caller form group) (by_group group)

  pub part_refused : (e : Refusal) → IsRefusalIn (bad_part form) e → IsRefusalOf (rule_created settings state caller form) e
  part_refused e (inl memory) = inl memory
  part_refused e (inr is) = inr (ap (λ r. unless (first_refusal (r ∷ bad_remote seen ∷ [])) (by_group seen)) is)

  module _ (good : bad_part form ≡ None) where
    pub remote_refused : (e : Refusal) → IsRefusalIn (bad_remote seen) e → IsRefusalOf (rule_created settings state caller form) e
    remote_refused e (inl memory) = inl memory
    remote_refused e (inr is) = inr (λ j. unless (first_refusal (good j ∷ is j ∷ [])) (by_group seen))

    pub group_unfound : (e : Refusal) → bad_remote seen ≡ None → seen ≡ None → IsOrMemory (not_found GroupKind (text_of (value_of form.security_group_id))) e
        → IsRefusalOf (rule_created settings state caller form) e
    group_unfound e remote none (inl memory) = inl memory
    group_unfound e remote none (inr is) = inr ((λ j. unless (first_refusal (good j ∷ remote j ∷ [])) (by_group (none j))) ∙ ap Refused (sym is))

    pub body_passes : (g : GroupRow) → seen ≡ Some g → bad_remote seen ≡ None → rule_body_refusal state.rows caller form (Some g) ≡ None
    body_passes g found remote = (λ j. first_refusal (good j ∷ bad_remote (sym found j) ∷ [])) ∙ ap (λ r. first_refusal (r ∷ [])) remote

  pub creation_refused : (g : GroupRow) (e : Refusal) → seen ≡ Some g → rule_body_refusal state.rows caller form (Some g) ≡ None
      → rule_creation_refusal settings state.rows caller g (new_rule form g no_id) ≡ Some e → IsRefusalOf (rule_created settings state caller form) e
  creation_refused g e found body is = inr (ap of_group found ∙ (λ j. unless (body j) (in_group g (is j) (drawing_at state g.project 1))))

  module _ (g : GroupRow) (may : IsOpen settings state.rows caller form g) where
    opened : rule_created settings state caller form ≡ needing CountersSpent (drawing_at state g.project 1) (λ d. rule_added caller d.rows (new_rule form g (drawn_id d 0)))
    opened = ap of_group may.seen ∙ (λ j. unless (may.body j) (in_group g (may.free j) (drawing_at state g.project 1)))

    pub rule_spent : (e : Refusal) → (e ≡ OutOfMemory) ⊎ ((e ≡ CountersSpent) × (drawing_at state g.project 1 ≡ None)) → IsRefusalOf (rule_created settings state caller form) e
    rule_spent e (inl memory) = inl memory
    rule_spent e (inr spent) = inr (opened ∙ (ap (in_group g None) spent.1 ∙ ap Refused (sym spent.0)))

    pub rule_leads : (d : Drawing) (r : RuleRow) (rows : RowLists) → drawing_at state g.project 1 ≡ Some d → r ≡ new_rule form g (drawn_id d 0) → rows ≡ with_added d.rows (Rule r)
        → rule_created settings state caller form ≡ Moved rows (NewRow (rule_shown rows caller r []))
    rule_leads d r rows drew is leads =
        opened ∙ (ap (in_group g None) drew ∙ (ap (rule_added caller d.rows) (sym is) ∙ ap (λ x. Moved x (NewRow (rule_shown x caller r []))) (sym leads)))

module _ (state : State) (caller : Caller) (name : IdText) (r : RuleRow) (found : rule_seen state.rows caller name.id ≡ Some r) where
  abbrev deleted_by : Option RuleRow → Outcome
  deleted_by o = needing (not_found RuleKind name.text) o (λ q. unless (rule_deletion_refusal state caller q) (accepted state.rows (Drop RuleKind q.id ∷ []) (λ rows. NoRow)))

  pub deletion_refused : (e : Refusal) → rule_deletion_refusal state caller r ≡ Some e → IsRefusalOf (rule_deleted state caller name) e
  deletion_refused e is = inr (ap deleted_by found ∙ ap (λ o. unless o (accepted state.rows (Drop RuleKind r.id ∷ []) (λ rows. NoRow))) is)

  pub deletion_leads : rule_deletion_refusal state caller r ≡ None → (begun after : RowLists) → begun ≡ state.rows → after ≡ without_row begun RuleKind r.id
      → rule_deleted state caller name ≡ Moved after NoRow
  deletion_leads passed begun after begins leads =
      ap deleted_by found ∙ (ap (λ o. unless o (accepted state.rows (Drop RuleKind r.id ∷ []) (λ rows. NoRow))) passed
      ∙ ap (λ rows. Moved rows NoRow) (sym (leads ∙ ap (λ rows. without_row rows RuleKind r.id) begins)))
