-- A tenant's calls on groups and rules leave what others own alone.
use Rattle.api_policy.specs.Permits.{admin_only}
use Rattle.api_policy.specs.Quotas.{over_quota}
use Rattle.api_policy.specs.Seen.{group_seen, rule_seen}
use Rattle.api_policy.specs.Visibility.{is_own}
use Rattle.api_types.proofs.ListLemmas.{and_both, any-at, at_filter, each-filter, false_true, one_row}
use Rattle.api_types.proofs.NameLemmas.{bytes_itself, bytes_same, ident_itself, ident_same}
use Rattle.api_types.specs.Consistent.{IsConsistent}
use Rattle.api_types.specs.Given.{are_unlike, is_for_other, owner_of, value_of}
use Rattle.api_types.specs.Ident.{Ident}
use Rattle.api_types.specs.Lists.{Each, is_some_so}
use Rattle.api_types.specs.Outcome.{Moved, Outcome}
use Rattle.api_types.specs.Printed.{NoRow, Reply}
use Rattle.api_types.specs.Refusing.{needing, not_found, unless, when}
use Rattle.api_types.specs.Registration.{Drawing, drawn_id}
use Rattle.api_types.specs.RowLists.{RowLists}
use Rattle.api_types.specs.Table.{ident_eq}
use Rattle.api_types.specs.WithRows.{gone_from, put_in, with_put, without_row}
use Rattle.api_types.specs.declared.call.Caller.{Caller}
use Rattle.api_types.specs.declared.call.IdText.{IdText}
use Rattle.api_types.specs.declared.form.GroupForm.{GroupForm}
use Rattle.api_types.specs.declared.form.RuleForm.{RuleForm}
use Rattle.api_types.specs.declared.group.Ethertype.TheVariants.{Ipv4, Ipv6}
use Rattle.api_types.specs.declared.group.GroupRow.{GroupRow}
use Rattle.api_types.specs.declared.group.RuleRow.{RuleRow}
use Rattle.api_types.specs.declared.kind.Kind.TheVariants.{Group as GroupKind, Rule as RuleKind}
use Rattle.api_types.specs.declared.kind.Row.TheVariants.{Group}
use Rattle.api_types.specs.declared.refusal.Refusal.{Refusal}
use Rattle.api_types.specs.declared.refusal.Refusal.TheVariants.{CountersSpent, Invalid}
use Rattle.call_parts.specs.BodyNames.{no_id, text_of}
use Rattle.call_parts.specs.Edits.{Drop, accepted, dropped, made}
use Rattle.call_parts.specs.State.{State, drawing_at}
use Rattle.net_settings.specs.Settings.{SettingsParts}
use Rattle.apart_laws.proofs.Drawn.{draws_sparing}
use Rattle.apart_laws.proofs.Filtered.{one_pushed, others_gone, others_put}
use Rattle.kept_laws.proofs.OutcomeLemmas.{moved_rows, named_is, needing_moved, unless_moved}
use Rattle.kept_laws.proofs.EditedRows.{none_refused}
use Rattle.apart_laws.proofs.Steps.{AreOwn, Spares, none_of_others, others, own_alone, own_owner, own_tenant, spares_then, unneeded, with_groups, with_rules}
use Rattle.plan_groups.specs.GroupCalls.{changed_group, egress_rule, group_added, group_created, group_creation_refusal, group_deleted, group_deletion_refusal, group_gone, group_replaced, group_update_refusal, group_updated, new_group, rule_added, rule_body_refusal, rule_created, rule_creation_refusal, rule_deleted, rule_deletion_refusal}
use Rattle.api_secgroup.specs.RuleParts.{new_rule}
use Rattle.row_laws.specs.Gone.{names_group}
use Rattle.std.proofs.Common.{Bool, List, None, Option, Some, [], ap, arith, false, not, refl, slice_get, subst, suc, sym, true, ℕ, ◌++◌, ◌∙◌, ◌∷◌, ◌≡◌}
use Rattle.std.specs.Prelude.{codes, filter, ◌&&◌, ◌||◌}
use Rattle.std.specs.Str.{bytes_eq}

pub group_created_spares : (settings : SettingsParts) (state : State) (caller : Caller) (form : GroupForm) (rows : RowLists) (reply : Reply) → caller.admin ≡ false → IsConsistent state.rows
    → group_created settings state caller form ≡ Moved rows reply → Spares caller.project state.rows rows
group_created_spares settings state caller form rows reply tenant c h =
    let owner : List ℕ = owner_of caller form.project_id form.tenant_id in
    let add_by : Drawing → Outcome = λ d. group_added caller d (new_group form owner (drawn_id d 0)) in
    let passed = unless_moved (group_creation_refusal settings state.rows caller form owner) (needing CountersSpent (drawing_at state owner 3) add_by) rows reply h in
    let drawing = needing_moved CountersSpent (drawing_at state owner 3) add_by rows reply passed.1 in
    let d : Drawing = drawing.0 in
    let g : GroupRow = new_group form owner (drawn_id d 0) in
    let four : RuleRow = egress_rule g Ipv4 (drawn_id d 1) in
    let six : RuleRow = egress_rule g Ipv6 (drawn_id d 2) in
    let by_admin : Option Refusal = admin_only caller (is_for_other caller form.project_id form.tenant_id) in
    let os : List (Option Refusal) = when (are_unlike form.project_id form.tenant_id) (Invalid (codes "tenant_id")) ∷ by_admin ∷ over_quota settings state.rows owner GroupKind ∷ [] in
    let own : owner ≡ caller.project = own_owner caller form.project_id form.tenant_id
    (unneeded caller (is_for_other caller form.project_id form.tenant_id) tenant (none_refused os passed.0 1 by_admin refl)) in
    let itself : not (bytes_eq owner caller.project) ≡ false = ap (λ p. not (bytes_eq p caller.project)) own ∙ ap not (bytes_itself caller.project) in
    let kept : RuleRow → Bool = others (λ (r : RuleRow). r.project) caller.project in
    let first : RowLists = record d.rows { groups = d.rows.groups ++ g ∷ [] } in
    let now : RowLists = record first { rules = (d.rows.rules ++ four ∷ []) ++ six ∷ [] } in
    let drawn : Spares caller.project state.rows d.rows = (draws_sparing state caller.project owner 3 d own drawing.1).spares in
    let one : Spares caller.project d.rows first = with_groups caller.project d.rows (d.rows.groups ++ g ∷ []) (one_pushed (others (λ (r : GroupRow). r.project) caller.project) d.rows.groups g itself) in
    let two : Spares caller.project first now = with_rules caller.project first ((d.rows.rules ++ four ∷ []) ++ six ∷ [])
    (one_pushed kept (d.rows.rules ++ four ∷ []) six itself ∙ one_pushed kept d.rows.rules four itself) in
    subst (Spares caller.project state.rows) (moved_rows now rows _ reply drawing.2)
    (spares_then caller.project state.rows d.rows now drawn (spares_then caller.project d.rows first now one two))

pub group_updated_spares : (state : State) (caller : Caller) (name : IdText) (form : GroupForm) (rows : RowLists) (reply : Reply) → caller.admin ≡ false → IsConsistent state.rows
    → group_updated state caller name form ≡ Moved rows reply → Spares caller.project state.rows rows
group_updated_spares state caller name form rows reply tenant c h =
    let set : GroupRow → Outcome = λ g. group_replaced caller state.rows (changed_group form g) in
    let rest : GroupRow → Outcome = λ g. unless (group_update_refusal state caller form g) (set g) in
    let found = needing_moved (not_found GroupKind name.text) (group_seen state.rows caller name.id) rest rows reply h in
    let g : GroupRow = found.0 in
    let new : GroupRow = changed_group form g in
    let here = named_is (λ (q : GroupRow). q.id) (λ (q : GroupRow). is_own caller q.project) state.rows.groups name.id g found.1 in
    let passed = unless_moved (group_update_refusal state caller form g) (set g) rows reply found.2 in
    let own = own_tenant caller g.project tenant here.is_seen in
    let are = own_alone (λ (q : GroupRow). q.id) (λ (q : GroupRow). q.project) caller.project state.rows.groups here.place g (omega (arith, c.numbered.ids g.id)) here.at own in
    subst (Spares caller.project state.rows) (moved_rows (with_put state.rows (Group new)) rows _ reply passed.1)
    (with_groups caller.project state.rows (put_in (λ (q : GroupRow). q.id) new state.rows.groups)
    (others_put (others (λ (r : GroupRow). r.project) caller.project) (λ (q : GroupRow). ident_eq g.id q.id) new state.rows.groups (ap not own)
    (none_of_others (λ (q : GroupRow). q.id) (λ (q : GroupRow). q.project) caller.project g.id state.rows.groups are)))

-- the rules that name a group are of its project
named_rules : (rows : RowLists) (c : IsConsistent rows) (project : List ℕ) (place : ℕ) (g : GroupRow) → slice_get rows.groups place ≡ Some g → bytes_eq g.project project ≡ true
    → Each (λ r. names_group g.id r ≡ true → bytes_eq r.project project ≡ true) rows.rules
named_rules rows c project place g at own k r at_r names = by (ident_eq g.id r.group) refl names
  where
    of_group : (owner : List ℕ) (i : Ident) → ident_eq g.id i ≡ true → (h : ℕ) (q : GroupRow) → slice_get rows.groups h ≡ Some q → ident_eq i q.id && bytes_eq q.project owner ≡ true → bytes_eq owner project ≡ true
    of_group owner i same h q at_q passes =
        let both = and_both (ident_eq i q.id) (bytes_eq q.project owner) passes in
        let is : q ≡ g = one_row (λ (y : GroupRow). ident_eq g.id y.id) rows.groups (omega (arith, c.numbered.ids g.id)) h place q g at_q at (ap (λ j. ident_eq j q.id) (ident_same g.id i same) ∙ both.0) (ident_itself g.id) in
        ap (λ p. bytes_eq p project) (sym (bytes_same q.project owner both.1) ∙ ap (λ (y : GroupRow). y.project) is) ∙ own

    remote : (o : Option Ident) → r.remote_group ≡ o → is_some_so (ident_eq g.id) o ≡ true → bytes_eq r.project project ≡ true
    remote None is h = false_true _ h
    remote (Some i) is h =
        let stands = any-at (λ (q : GroupRow). ident_eq i q.id && bytes_eq q.project r.project) rows.groups (rw is at (c.groups.remotes k r at_r)) in
        of_group r.project i h stands.0 stands.1 stands.2 stands.3

    by : (b : Bool) → ident_eq g.id r.group ≡ b → b || is_some_so (ident_eq g.id) r.remote_group ≡ true → bytes_eq r.project project ≡ true
    by true is h =
        let stands = any-at (λ (q : GroupRow). ident_eq r.group q.id && bytes_eq q.project r.project) rows.groups (c.in_form.rule_owners k r at_r) in
        of_group r.project r.group is stands.0 stands.1 stands.2 stands.3
    by false is h = remote r.remote_group refl h

-- own rules go one by one, and then their group
going_spares : (project : List ℕ) (i : Ident) (rows : RowLists) (rs : List RuleRow) → Each (λ r. AreOwn (λ (q : RuleRow). q.id) (λ (q : RuleRow). q.project) project r.id rows.rules) rs
    → AreOwn (λ (q : GroupRow). q.id) (λ (q : GroupRow). q.project) project i rows.groups
    → Spares project rows (made rows (dropped RuleKind (λ (r : RuleRow). r.id) rs ++ Drop GroupKind i ∷ []))
going_spares project i rows [] own group = with_groups project rows (gone_from (λ (q : GroupRow). q.id) i rows.groups)
    (others_gone (others (λ (x : GroupRow). x.project) project) (λ (q : GroupRow). ident_eq i q.id) rows.groups
    (none_of_others (λ (q : GroupRow). q.id) (λ (q : GroupRow). q.project) project i rows.groups group))
going_spares project i rows (r ∷ rs) own group =
    let less : RowLists = without_row rows RuleKind r.id in
    let one : Spares project rows less = with_rules project rows (gone_from (λ (q : RuleRow). q.id) r.id rows.rules)
    (others_gone (others (λ (x : RuleRow). x.project) project) (λ (q : RuleRow). ident_eq r.id q.id) rows.rules
    (none_of_others (λ (q : RuleRow). q.id) (λ (q : RuleRow). q.project) project r.id rows.rules (own 0 r refl))) in
    spares_then project rows less _ one (going_spares project i less rs
    (λ k x at. each-filter (λ (q : RuleRow). not (ident_eq r.id q.id)) _ _ rows.rules (λ q kept h. h) (own (suc k) x at)) group)

pub group_deleted_spares : (state : State) (caller : Caller) (name : IdText) (rows : RowLists) (reply : Reply) → caller.admin ≡ false → IsConsistent state.rows
    → group_deleted state caller name ≡ Moved rows reply → Spares caller.project state.rows rows
group_deleted_spares state caller name rows reply tenant c h =
    let gone : GroupRow → Outcome = λ g. accepted state.rows (group_gone state.rows g.id) (λ after. NoRow) in
    let rest : GroupRow → Outcome = λ g. unless (group_deletion_refusal state caller g) (gone g) in
    let found = needing_moved (not_found GroupKind name.text) (group_seen state.rows caller name.id) rest rows reply h in
    let g : GroupRow = found.0 in
    let here = named_is (λ (q : GroupRow). q.id) (λ (q : GroupRow). is_own caller q.project) state.rows.groups name.id g found.1 in
    let passed = unless_moved (group_deletion_refusal state caller g) (gone g) rows reply found.2 in
    let own = own_tenant caller g.project tenant here.is_seen in
    let all = named_rules state.rows c caller.project here.place g here.at own in
    subst (Spares caller.project state.rows) (moved_rows (made state.rows (group_gone state.rows g.id)) rows _ reply passed.1)
    (going_spares caller.project g.id state.rows (filter (names_group g.id) state.rows.rules)
    (λ k r at. let at_r = at_filter (names_group g.id) state.rows.rules k r at in
    own_alone (λ (q : RuleRow). q.id) (λ (q : RuleRow). q.project) caller.project state.rows.rules at_r.0 r (omega (arith, c.numbered.ids r.id)) at_r.1 (all at_r.0 r at_r.1 at_r.2))
    (own_alone (λ (q : GroupRow). q.id) (λ (q : GroupRow). q.project) caller.project state.rows.groups here.place g (omega (arith, c.numbered.ids g.id)) here.at own))

-- rules

pub rule_created_spares : (settings : SettingsParts) (state : State) (caller : Caller) (form : RuleForm) (rows : RowLists) (reply : Reply) → caller.admin ≡ false → IsConsistent state.rows
    → rule_created settings state caller form ≡ Moved rows reply → Spares caller.project state.rows rows
rule_created_spares settings state caller form rows reply tenant c h =
    let seen : Option GroupRow = group_seen state.rows caller (value_of form.security_group_id) in
    let add : GroupRow → Drawing → Outcome = λ g d. rule_added caller d.rows (new_rule form g (drawn_id d 0)) in
    let draw : GroupRow → Outcome = λ g. needing CountersSpent (drawing_at state g.project 1) (add g) in
    let rest : GroupRow → Outcome = λ g. unless (rule_creation_refusal settings state.rows caller g (new_rule form g no_id)) (draw g) in
    let first = unless_moved (rule_body_refusal state.rows caller form seen) (needing (not_found GroupKind (text_of (value_of form.security_group_id))) seen rest) rows reply h in
    let found = needing_moved (not_found GroupKind (text_of (value_of form.security_group_id))) seen rest rows reply first.1 in
    let g : GroupRow = found.0 in
    let here = named_is (λ (q : GroupRow). q.id) (λ (q : GroupRow). is_own caller q.project) state.rows.groups (value_of form.security_group_id) g found.1 in
    let passed = unless_moved (rule_creation_refusal settings state.rows caller g (new_rule form g no_id)) (draw g) rows reply found.2 in
    let drawing = needing_moved CountersSpent (drawing_at state g.project 1) (add g) rows reply passed.1 in
    let d : Drawing = drawing.0 in
    let r : RuleRow = new_rule form g (drawn_id d 0) in
    let own = own_tenant caller g.project tenant here.is_seen in
    let now : RowLists = record d.rows { rules = d.rows.rules ++ r ∷ [] } in
    let drawn : Spares caller.project state.rows d.rows = (draws_sparing state caller.project g.project 1 d (bytes_same g.project caller.project own) drawing.1).spares in
    subst (Spares caller.project state.rows) (moved_rows now rows _ reply drawing.2)
    (spares_then caller.project state.rows d.rows now drawn
    (with_rules caller.project d.rows (d.rows.rules ++ r ∷ []) (one_pushed (others (λ (x : RuleRow). x.project) caller.project) d.rows.rules r (ap not own))))

pub rule_deleted_spares : (state : State) (caller : Caller) (name : IdText) (rows : RowLists) (reply : Reply) → caller.admin ≡ false → IsConsistent state.rows
    → rule_deleted state caller name ≡ Moved rows reply → Spares caller.project state.rows rows
rule_deleted_spares state caller name rows reply tenant c h =
    let gone : RuleRow → Outcome = λ r. accepted state.rows (Drop RuleKind r.id ∷ []) (λ after. NoRow) in
    let rest : RuleRow → Outcome = λ r. unless (rule_deletion_refusal state caller r) (gone r) in
    let found = needing_moved (not_found RuleKind name.text) (rule_seen state.rows caller name.id) rest rows reply h in
    let r : RuleRow = found.0 in
    let here = named_is (λ (q : RuleRow). q.id) (λ (q : RuleRow). is_own caller q.project) state.rows.rules name.id r found.1 in
    let passed = unless_moved (rule_deletion_refusal state caller r) (gone r) rows reply found.2 in
    subst (Spares caller.project state.rows) (moved_rows (without_row state.rows RuleKind r.id) rows _ reply passed.1)
    (with_rules caller.project state.rows (gone_from (λ (q : RuleRow). q.id) r.id state.rows.rules)
    (others_gone (others (λ (x : RuleRow). x.project) caller.project) (λ (q : RuleRow). ident_eq r.id q.id) state.rows.rules
    (none_of_others (λ (q : RuleRow). q.id) (λ (q : RuleRow). q.project) caller.project r.id state.rows.rules
    (own_alone (λ (q : RuleRow). q.id) (λ (q : RuleRow). q.project) caller.project state.rows.rules here.place r (omega (arith, c.numbered.ids r.id)) here.at (own_tenant caller r.project tenant here.is_seen)))))
