-- A tenant is told the same of groups and rules wherever its footing is the same.
use Rattle.std.proofs.Common.{◌≡◌, ◌+◌, ◌++◌, List, ◌∷◌, Bool, true, false, cond, Option, Some, None, slice_get, refl, ap, sym, ◌∙◌, arith, not, subst, ℕ, []}
use Rattle.std.proofs.lemmas.List.Elements.{filter-append}
use Rattle.std.specs.Prelude.{◌&&◌, codes, filter, find, option_map, option_to_list}
use Rattle.std.specs.List.{list_any}
use Rattle.std.specs.Str.{bytes_eq}
use Rattle.call_parts.specs.BodyNames.{no_id, text_of, unless_all}
use Rattle.call_parts.specs.Edits.{accepted, Drop}
use Rattle.plan_groups.specs.GroupCalls.{changed_group, egress_rule, group_added, group_created, group_creation_refusal, group_deleted, group_deletion_refusal, group_gone, group_replaced, group_update_refusal, group_updated, is_remote_for, new_group, rule_added, rule_body_refusal, rule_created, rule_creation_refusal, rule_deleted, rule_deletion_refusal, rule_exists}
use Rattle.api_policy.specs.Permits.{admin_only, owner_only}
use Rattle.api_policy.specs.Quotas.{over_quota}
use Rattle.api_secgroup.specs.RuleParts.{bad_part, equal_rule, new_rule}
use Rattle.api_policy.specs.Seen.{group_seen, rule_seen}
use Rattle.api_policy.specs.Uses.{default_in_use, group_in_use, is_group_user}
use Rattle.api_policy.specs.Visibility.{sees_port}
use Rattle.api_policy.specs.Groups.{rule_members, rule_object, rules_of}
use Rattle.api_policy.specs.Shown.{shown_as}
use Rattle.api_policy.specs.Trees.{id_word, list_of}
use Rattle.apart_laws.specs.Footing.{footing, owned}
use Rattle.api_types.specs.Given.{are_unlike, is_for_other, is_given, owner_of, value_of}
use Rattle.api_types.specs.Refusing.{at_name, first_refusal, needing, not_found, answer_alone, unless, when}
use Rattle.call_parts.specs.State.{State, drawing_at}
use Rattle.api_types.specs.Consistent.{IsConsistent}
use Rattle.api_types.specs.Consistent.Groups.{is_direction, is_ethertype, same_match, same_rule}
use Rattle.api_types.specs.Consistent.InForm.{is_group_of}
use Rattle.api_types.specs.Ident.{Ident}
use Rattle.api_types.specs.Lists.{Each, is_empty, is_some_so}
use Rattle.api_types.specs.Outcome.{Outcome, Told}
use Rattle.api_types.specs.Printed.{NamedTree, NewRow, NoRow, OneRow, word}
use Rattle.api_types.specs.Registration.{Drawing, drawn_id, ident}
use Rattle.api_types.specs.RowLists.{RowLists}
use Rattle.api_types.specs.Table.{ident_eq}
use Rattle.api_types.specs.declared.call.Caller.{Caller}
use Rattle.api_types.specs.declared.call.IdText.{IdText}
use Rattle.api_types.specs.declared.form.GroupForm.{GroupForm}
use Rattle.api_types.specs.declared.form.RuleForm.{RuleForm}
use Rattle.api_types.specs.declared.group.Ethertype.TheVariants.{Ipv4, Ipv6}
use Rattle.api_types.specs.declared.group.GroupRow.{GroupRow}
use Rattle.api_types.specs.declared.group.RuleRow.{RuleRow}
use Rattle.api_types.specs.declared.kind.Kind.TheVariants.{Group as GroupKind, Rule as RuleKind}
use Rattle.api_types.specs.declared.refusal.Refusal.{Refusal}
use Rattle.api_types.specs.declared.refusal.Refusal.TheVariants.{CountersSpent, Invalid}
use Rattle.api_types.specs.declared.refusal.UseRule.TheVariants.{SecurityGroupInUse}
use Rattle.net_settings.specs.Settings.{SettingsParts}
use Rattle.row_laws.specs.Drawn.{IsDrawing}
use Rattle.api_types.proofs.ListLemmas.{and_both, any-at, none-counted, one_row}
use Rattle.api_types.proofs.NameLemmas.{all-at, bytes_same, ident_itself, ident_same, unnamed}
use Rattle.apart_laws.proofs.DrawnAlike.{counts_of, drawn_ids}
use Rattle.apart_laws.proofs.FootingLemmas.{owner_own, rest_none}
use Rattle.apart_laws.proofs.ListLemmas.{filter-none, find-filter, or_left, or_right}
use Rattle.apart_laws.proofs.ApartLemmas.{filter-kept, first_same, head_none, needing_same, unless_same}
use Rattle.apart_laws.proofs.OwnAlike.{admin_passes, drawn_alike, own_here, quota_own, rules_alike, seen_user, users_told}
use Rattle.apart_laws.proofs.GroupAlike.{group_found, group_id}

-- what is printed of a group follows from the row and its rules
abbrev pub group_printed : GroupRow → List RuleRow → List NamedTree
group_printed g rules =
    (codes "description", word g.description)
    ∷ (codes "id", id_word g.id)
    ∷ (codes "name", word g.name)
    ∷ (codes "project_id", word g.project)
    ∷ (codes "security_group_rules", list_of rule_object rules)
    ∷ (codes "tenant_id", word g.project)
    ∷ []

-- the rules of a group are of its project, and so are the ports that name it

module _ (rows : RowLists) (caller : Caller) (c : IsConsistent rows) (k : ℕ) (g : GroupRow) (at : slice_get rows.groups k ≡ Some g) (own : bytes_eq g.project caller.project ≡ true) where
  group_project : (i : Ident) → ident_eq g.id i ≡ true → (name : List ℕ) → is_group_of rows.groups name i ≡ true → bytes_eq name caller.project ≡ true
  group_project i is name stands =
      let there = any-at (λ (h : GroupRow). ident_eq i h.id && bytes_eq h.project name) rows.groups stands in
      let both = and_both (ident_eq i there.1.id) (bytes_eq there.1.project name) there.3 in
      let one = one_row (λ (h : GroupRow). ident_eq g.id h.id) rows.groups (omega (arith, c.numbered.ids g.id)) k there.0 g there.1 at there.2 (ident_itself g.id)
      (ap (λ j. ident_eq j there.1.id) (ident_same g.id i is) ∙ both.0) in
      ap (λ n. bytes_eq n caller.project) (sym (bytes_same there.1.project name both.1) ∙ ap (λ (h : GroupRow). h.project) (sym one)) ∙ own

  pub group_rules : rules_of rows.rules g ≡ rules_of (owned (λ (r : RuleRow). r.project) caller.project rows.rules) g
  group_rules = sym (filter-kept (λ (r : RuleRow). bytes_eq r.project caller.project) (λ (r : RuleRow). ident_eq g.id r.group) rows.rules
      (λ m r at_r is. group_project r.group is r.project (c.in_form.rule_owners m r at_r)))

  group_users : Each (λ p. is_group_user g.id p ≡ true → sees_port rows caller p ≡ true) rows.ports
  group_users m p at_p names =
      let there = any-at (ident_eq g.id) p.groups names in
      or_left _ _ (or_right caller.admin _ (group_project there.1 there.3 p.project (all-at (is_group_of rows.groups p.project) p.groups (c.groups.of_ports m p at_p) there.0 there.1 there.2)))

-- a new group has just its own rules
new_rules : (rows : RowLists) (c : IsConsistent rows) (g : GroupRow) → list_any (λ (h : GroupRow). ident_eq g.id h.id) rows.groups ≡ false → (i j : Ident)
    → rules_of ((rows.rules ++ egress_rule g Ipv4 i ∷ []) ++ egress_rule g Ipv6 j ∷ []) g ≡ egress_rule g Ipv4 i ∷ egress_rule g Ipv6 j ∷ []
new_rules rows c g unknown i j =
    filter-append of_group (rows.rules ++ egress_rule g Ipv4 i ∷ []) (egress_rule g Ipv6 j ∷ [])
    ∙ (ap (λ rs. rs ++ filter of_group (egress_rule g Ipv6 j ∷ [])) (filter-append of_group rows.rules (egress_rule g Ipv4 i ∷ []))
    ∙ (λ l. (none l ++ cond (ident_itself g.id l) (egress_rule g Ipv4 i ∷ []) []) ++ cond (ident_itself g.id l) (egress_rule g Ipv6 j ∷ []) []))
  where
    of_group : RuleRow → Bool
    of_group r = ident_eq g.id r.group

    none : filter of_group rows.rules ≡ []
    none = filter-none of_group rows.rules (unnamed group_id g.id rows.groups (λ (r : RuleRow). r.group) rows.rules unknown c.named.groups.of_rules)

module _ (settings : SettingsParts) (caller : Caller) (tenant : caller.admin ≡ false) (s t : State) (same : footing settings s caller ≡ footing settings t caller) where
  rule_found : (name : Option Ident) → rule_seen s.rows caller name ≡ rule_seen t.rows caller name
  rule_found name = ap (at_name (λ (r : RuleRow). r.id) name) (rules_alike settings caller tenant s t same)

  own_project : (state : State) (name : Option Ident) (g : GroupRow) → group_seen state.rows caller name ≡ Some g → g.project ≡ caller.project
  own_project state name g found = bytes_same g.project caller.project (own_here caller tenant group_id (λ (r : GroupRow). r.project) name state.rows.groups g found).2

  pub rules_same : (c : IsConsistent s.rows) (d : IsConsistent t.rows) (name : Option Ident) (g : GroupRow) → group_seen s.rows caller name ≡ Some g → group_seen t.rows caller name ≡ Some g
      → rules_of s.rows.rules g ≡ rules_of t.rows.rules g
  rules_same c d name g found_s found_t =
      let here = own_here caller tenant group_id (λ (r : GroupRow). r.project) name s.rows.groups g found_s in
      let there = own_here caller tenant group_id (λ (r : GroupRow). r.project) name t.rows.groups g found_t in
      group_rules s.rows caller c here.0 g here.1 here.2 ∙ (ap (λ f. rules_of f.rules g) same ∙ sym (group_rules t.rows caller d there.0 g there.1 there.2))

  -- making a group

  group_added_alike : not (is_empty caller.project) ≡ true → IsConsistent s.rows → IsConsistent t.rows → (form : GroupForm) (x y : Drawing)
      → drawing_at s caller.project 3 ≡ Some x → drawing_at t caller.project 3 ≡ Some y → counts_of x ≡ counts_of y
      → answer_alone (group_added caller x (new_group form caller.project (drawn_id x 0))) ≡ answer_alone (group_added caller y (new_group form caller.project (drawn_id y 0)))
  group_added_alike named c d form x y at_x at_y counts =
      ap (λ rules. Told (NewRow (shown_as GroupKind caller.admin [] (group_printed (new_group form caller.project (drawn_id x 0)) rules)))) (rules_at s x c at_x)
      ∙ ((λ j. Told (NewRow (shown_as GroupKind caller.admin [] (printed (counts j).0 (counts j).1))))
      ∙ sym (ap (λ rules. Told (NewRow (shown_as GroupKind caller.admin [] (group_printed (new_group form caller.project (drawn_id y 0)) rules)))) (rules_at t y d at_y)))
    where
      group_at : ℕ → ℕ → GroupRow
      group_at ordinal first = new_group form caller.project (ident ordinal (first + 0))

      printed : ℕ → ℕ → List NamedTree
      printed ordinal first = group_printed (group_at ordinal first)
          (egress_rule (group_at ordinal first) Ipv4 (ident ordinal (first + 1)) ∷ egress_rule (group_at ordinal first) Ipv6 (ident ordinal (first + 2)) ∷ [])

      rules_at : (state : State) (z : Drawing) → IsConsistent state.rows → drawing_at state caller.project 3 ≡ Some z
          → rules_of ((z.rows.rules ++ egress_rule (new_group form caller.project (drawn_id z 0)) Ipv4 (drawn_id z 1) ∷ []) ++ egress_rule (new_group form caller.project (drawn_id z 0)) Ipv6 (drawn_id z 2) ∷ [])
          (new_group form caller.project (drawn_id z 0))
          ≡ egress_rule (new_group form caller.project (drawn_id z 0)) Ipv4 (drawn_id z 1) ∷ egress_rule (new_group form caller.project (drawn_id z 0)) Ipv6 (drawn_id z 2) ∷ []
      rules_at state z e at =
          let drawing : IsDrawing state.rows caller.project 3 z = (drawn_ids state caller.project 3 z e named (omega arith) at).0 in
          new_rules z.rows drawing.consistent (new_group form caller.project (drawn_id z 0))
          (none-counted (λ (h : GroupRow). ident_eq (drawn_id z 0) h.id) z.rows.groups (omega (arith, drawing.fresh 0 (omega arith)))) (drawn_id z 1) (drawn_id z 2)

  pub group_created_apart : not (is_empty caller.project) ≡ true → IsConsistent s.rows → IsConsistent t.rows → (form : GroupForm) → answer_alone (group_created settings s caller form) ≡ answer_alone (group_created settings t caller form)
  group_created_apart named c d form = unless_same (group_creation_refusal settings s.rows caller form owner) (group_creation_refusal settings t.rows caller form owner)
      (needing CountersSpent (drawing_at s owner 3) (λ drawing. group_added caller drawing (new_group form owner (drawn_id drawing 0))))
      (needing CountersSpent (drawing_at t owner 3) (λ drawing. group_added caller drawing (new_group form owner (drawn_id drawing 0))))
      refused
      (λ passes also. made (passed passes))
    where
      owner : List ℕ
      owner = owner_of caller form.project_id form.tenant_id

      mine : admin_only caller (is_for_other caller form.project_id form.tenant_id) ≡ None → owner ≡ caller.project
      mine passes = owner_own caller form.project_id form.tenant_id (admin_passes caller tenant (is_for_other caller form.project_id form.tenant_id) passes)

      passed : group_creation_refusal settings s.rows caller form owner ≡ None → owner ≡ caller.project
      passed passes = mine (head_none (admin_only caller (is_for_other caller form.project_id form.tenant_id)) (over_quota settings s.rows owner GroupKind ∷ [])
          (rest_none (when (are_unlike form.project_id form.tenant_id) (Invalid (codes "tenant_id")))
          (admin_only caller (is_for_other caller form.project_id form.tenant_id) ∷ over_quota settings s.rows owner GroupKind ∷ []) passes))

      refused : group_creation_refusal settings s.rows caller form owner ≡ group_creation_refusal settings t.rows caller form owner
      refused = first_same (when (are_unlike form.project_id form.tenant_id) (Invalid (codes "tenant_id"))) (when (are_unlike form.project_id form.tenant_id) (Invalid (codes "tenant_id")))
          (admin_only caller (is_for_other caller form.project_id form.tenant_id) ∷ over_quota settings s.rows owner GroupKind ∷ [])
          (admin_only caller (is_for_other caller form.project_id form.tenant_id) ∷ over_quota settings t.rows owner GroupKind ∷ []) refl
          (λ a b. first_same (admin_only caller (is_for_other caller form.project_id form.tenant_id)) (admin_only caller (is_for_other caller form.project_id form.tenant_id))
          (over_quota settings s.rows owner GroupKind ∷ []) (over_quota settings t.rows owner GroupKind ∷ []) refl
          (λ passes also. ap (λ o. first_refusal (o ∷ [])) (quota_own settings caller tenant s t same owner (mine passes) GroupKind)))

      made : owner ≡ caller.project
          → answer_alone (needing CountersSpent (drawing_at s owner 3) (λ drawing. group_added caller drawing (new_group form owner (drawn_id drawing 0))))
          ≡ answer_alone (needing CountersSpent (drawing_at t owner 3) (λ drawing. group_added caller drawing (new_group form owner (drawn_id drawing 0))))
      made own = subst (λ name. answer_alone (needing CountersSpent (drawing_at s name 3) (λ drawing. group_added caller drawing (new_group form name (drawn_id drawing 0))))
          ≡ answer_alone (needing CountersSpent (drawing_at t name 3) (λ drawing. group_added caller drawing (new_group form name (drawn_id drawing 0))))) (sym own)
          (drawn_alike settings caller tenant s t same caller.project refl 3 (λ drawing. group_added caller drawing (new_group form caller.project (drawn_id drawing 0)))
          (λ drawing. group_added caller drawing (new_group form caller.project (drawn_id drawing 0))) (group_added_alike named c d form))

  -- changing a group

  pub group_updated_apart : IsConsistent s.rows → IsConsistent t.rows → (name : IdText) (form : GroupForm) → answer_alone (group_updated s caller name form) ≡ answer_alone (group_updated t caller name form)
  group_updated_apart c d name form = needing_same (not_found GroupKind name.text) (group_seen s.rows caller name.id) (group_seen t.rows caller name.id)
      (λ g. unless (group_update_refusal s caller form g) (group_replaced caller s.rows (changed_group form g)))
      (λ g. unless (group_update_refusal t caller form g) (group_replaced caller t.rows (changed_group form g)))
      ((group_found settings caller tenant s t same) name.id)
      (λ g found_s found_t. unless_same (group_update_refusal s caller form g) (group_update_refusal t caller form g)
      (group_replaced caller s.rows (changed_group form g)) (group_replaced caller t.rows (changed_group form g))
      (λ j. first_refusal (when (g.is_default && is_given form.name) (Invalid (codes "name")) ∷ owner_only caller g.project ∷ when (same j).is_last CountersSpent ∷ []))
      (λ passes also. ap (λ rules. Told (OneRow (shown_as GroupKind caller.admin [] (group_printed (changed_group form g) rules)))) (rules_same c d name.id g found_s found_t)))

  -- taking a group out

  used_same : (c : IsConsistent s.rows) (d : IsConsistent t.rows) (name : Option Ident) (g : GroupRow) → group_seen s.rows caller name ≡ Some g → group_seen t.rows caller name ≡ Some g
      → group_in_use s.rows caller g.id ≡ group_in_use t.rows caller g.id
  used_same c d name g found_s found_t =
      let here = own_here caller tenant group_id (λ (r : GroupRow). r.project) name s.rows.groups g found_s in
      let there = own_here caller tenant group_id (λ (r : GroupRow). r.project) name t.rows.groups g found_t in
      users_told s.rows caller c SecurityGroupInUse GroupKind g.id (is_group_user g.id) (λ p. refl) (group_users s.rows caller c here.0 g here.1 here.2)
      ∙ (ap (λ f. option_map (seen_user SecurityGroupInUse GroupKind g.id) (find (is_group_user g.id) f.ports)) same
      ∙ sym (users_told t.rows caller d SecurityGroupInUse GroupKind g.id (is_group_user g.id) (λ p. refl) (group_users t.rows caller d there.0 g there.1 there.2)))

  pub group_deleted_apart : IsConsistent s.rows → IsConsistent t.rows → (name : IdText) → answer_alone (group_deleted s caller name) ≡ answer_alone (group_deleted t caller name)
  group_deleted_apart c d name = needing_same (not_found GroupKind name.text) (group_seen s.rows caller name.id) (group_seen t.rows caller name.id)
      (λ g. unless (group_deletion_refusal s caller g) (accepted s.rows (group_gone s.rows g.id) (λ rows. NoRow)))
      (λ g. unless (group_deletion_refusal t caller g) (accepted t.rows (group_gone t.rows g.id) (λ rows. NoRow)))
      ((group_found settings caller tenant s t same) name.id)
      (λ g found_s found_t. unless_same (group_deletion_refusal s caller g) (group_deletion_refusal t caller g)
      (accepted s.rows (group_gone s.rows g.id) (λ rows. NoRow)) (accepted t.rows (group_gone t.rows g.id) (λ rows. NoRow))
      (let used = used_same c d name.id g found_s found_t in λ j. first_refusal (owner_only caller g.project ∷ default_in_use g ∷ used j ∷ when (same j).is_last CountersSpent ∷ []))
      (λ passes also. refl))

  -- making a rule

  body_same : (form : RuleForm) → rule_body_refusal s.rows caller form (group_seen s.rows caller (value_of form.security_group_id)) ≡ rule_body_refusal t.rows caller form (group_seen t.rows caller (value_of form.security_group_id))
  body_same form = λ j. first_refusal (
      bad_part form
      ∷ unless_all GroupKind (λ i. is_some_so (is_remote_for caller ((group_found settings caller tenant s t same) (value_of form.security_group_id) j)) ((group_found settings caller tenant s t same) (Some i) j)) (option_to_list (value_of form.remote_group_id))
      ∷ [])

  -- an equal rule is of the project too
  equal_own : (rows : RowLists) (r : RuleRow) → r.project ≡ caller.project → equal_rule rows.rules r ≡ equal_rule (owned (λ (q : RuleRow). q.project) caller.project rows.rules) r
  equal_own rows r own = sym (find-filter (λ (q : RuleRow). bytes_eq q.project caller.project) (λ q. same_rule q r) rows.rules
      (λ k q at equal. ap (bytes_eq q.project) (sym own) ∙ (and_both (bytes_eq q.project r.project) (is_direction q.direction r.direction && (is_ethertype q.ethertype r.ethertype && same_match q r))
      (and_both (ident_eq q.group r.group) (bytes_eq q.project r.project && (is_direction q.direction r.direction && (is_ethertype q.ethertype r.ethertype && same_match q r))) equal).1).0))

  equal_same : (r : RuleRow) → r.project ≡ caller.project → equal_rule s.rows.rules r ≡ equal_rule t.rows.rules r
  equal_same r own = equal_own s.rows r own ∙ (ap (λ f. equal_rule f.rules r) same ∙ sym (equal_own t.rows r own))

  pub rule_created_apart : (form : RuleForm) → answer_alone (rule_created settings s caller form) ≡ answer_alone (rule_created settings t caller form)
  rule_created_apart form = unless_same (rule_body_refusal s.rows caller form (group_seen s.rows caller group)) (rule_body_refusal t.rows caller form (group_seen t.rows caller group))
      (needing refusal (group_seen s.rows caller group) (on s)) (needing refusal (group_seen t.rows caller group) (on t)) (body_same form)
      (λ passes also. needing_same refusal (group_seen s.rows caller group) (group_seen t.rows caller group) (on s) (on t) ((group_found settings caller tenant s t same) group)
      (λ g found_s found_t. let own = own_project s group g found_s in
      unless_same (rule_creation_refusal settings s.rows caller g (new_rule form g no_id)) (rule_creation_refusal settings t.rows caller g (new_rule form g no_id))
      (needing CountersSpent (drawing_at s g.project 1) (λ drawing. rule_added caller drawing.rows (new_rule form g (drawn_id drawing 0))))
      (needing CountersSpent (drawing_at t g.project 1) (λ drawing. rule_added caller drawing.rows (new_rule form g (drawn_id drawing 0))))
      (let quota = quota_own settings caller tenant s t same g.project own RuleKind in
      let equal = equal_same (new_rule form g no_id) own in
      λ j. first_refusal (owner_only caller g.project ∷ option_map rule_exists (equal j) ∷ quota j ∷ []))
      (λ passes also. drawn_alike settings caller tenant s t same g.project own 1
      (λ drawing. rule_added caller drawing.rows (new_rule form g (drawn_id drawing 0))) (λ drawing. rule_added caller drawing.rows (new_rule form g (drawn_id drawing 0)))
      (λ x y at_x at_y counts. λ j. Told (NewRow (shown_as RuleKind caller.admin [] (rule_members (new_rule form g (ident (counts j).0 ((counts j).1 + 0))))))))))
    where
      group : Option Ident
      group = value_of form.security_group_id

      refusal : Refusal
      refusal = not_found GroupKind (text_of group)

      on : State → GroupRow → Outcome
      on state g = unless (rule_creation_refusal settings state.rows caller g (new_rule form g no_id))
          (needing CountersSpent (drawing_at state g.project 1) (λ drawing. rule_added caller drawing.rows (new_rule form g (drawn_id drawing 0))))

  -- taking a rule out

  pub rule_deleted_apart : (name : IdText) → answer_alone (rule_deleted s caller name) ≡ answer_alone (rule_deleted t caller name)
  rule_deleted_apart name = needing_same (not_found RuleKind name.text) (rule_seen s.rows caller name.id) (rule_seen t.rows caller name.id)
      (λ r. unless (rule_deletion_refusal s caller r) (accepted s.rows (Drop RuleKind r.id ∷ []) (λ rows. NoRow)))
      (λ r. unless (rule_deletion_refusal t caller r) (accepted t.rows (Drop RuleKind r.id ∷ []) (λ rows. NoRow)))
      (rule_found name.id)
      (λ r found_s found_t. unless_same (rule_deletion_refusal s caller r) (rule_deletion_refusal t caller r)
      (accepted s.rows (Drop RuleKind r.id ∷ []) (λ rows. NoRow)) (accepted t.rows (Drop RuleKind r.id ∷ []) (λ rows. NoRow))
      (λ j. first_refusal (owner_only caller r.project ∷ when (same j).is_last CountersSpent ∷ []))
      (λ passes also. refl))
