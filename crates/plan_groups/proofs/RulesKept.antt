-- Accepted calls on security groups and rules keep rows consistent.
use Rattle.std.proofs.Common.{lit<, Bool, List, None, Option, Some, ap, arith, false, not, refl, slice_get, subst, sym, true, ◌<◌, ◌∙◌, ◌∷◌, ◌≡◌, ◌+◌, ◌^◌, [], ℕ}
use Rattle.plan_groups.specs.GroupCalls.{changed_group, egress_rule, group_added, group_created, group_creation_refusal, group_deleted, group_deletion_refusal, group_gone, group_replaced, group_update_refusal, group_updated, is_remote_for, is_remote_seen, new_group, rule_added, rule_body_refusal, rule_created, rule_creation_refusal, rule_deleted, rule_deletion_refusal, rule_exists}
use Rattle.kept_laws.proofs.TypedKept.{HaveKept, drawing_typed}
use Rattle.kept_laws.proofs.EditedRows.{none_refused, put_at}
use Rattle.kept_laws.proofs.CallLemmas.{unmapped}
use Rattle.kept_laws.proofs.ServiceMade.{drawing_is}
use Rattle.kept_laws.proofs.GivenLemmas.{has_name as has_name_of}
use Rattle.row_laws.specs.Drawn.{IsDrawing}
use Rattle.row_laws.specs.Gone.{IsUnusedGroup}
use Rattle.row_laws.specs.NewRows.{with_group, with_rule}
use Rattle.plan_groups.proofs.GroupDropped.{group_rows_gone}
use Rattle.kept_laws.proofs.OutcomeLemmas.{moved_rows, named_is, needing_moved, not_when, unfound, unless_moved}
use Rattle.row_laws.proofs.DrawnKept.{drawing_carried, by_position}
use Rattle.row_laws.proofs.GroupGone.{group_gone as group_off}
use Rattle.row_laws.proofs.GroupPushed.{group_pushed}
use Rattle.row_laws.proofs.GroupReplaced.{group_replaced as group_renamed}
use Rattle.api_types.proofs.IdLemmas.{fresh-push}
use Rattle.row_laws.proofs.TimesLemmas.{times-group, times-rule}
use Rattle.api_types.proofs.NameLemmas.{and_fails, by_test, bytes_itself, bytes_same, first_fails, ident_itself, ident_sym, not_false, unnamed}
use Rattle.api_types.proofs.ListLemmas.{and_both, both_and, any-last, at-any, each-push, false_true, none-counted, none_some, some_equal, one_row}
use Rattle.row_laws.proofs.RulePushed.{rule_pushed}
use Rattle.row_laws.proofs.RulesGone.{rules_gone}
use Rattle.call_parts.specs.BodyNames.{no_id, text_of, unless_all}
use Rattle.call_parts.specs.Edits.{Drop, accepted, made}
use Rattle.api_types.specs.WithRows.{with_put, without_row}
use Rattle.call_parts.specs.InForm.{IsFormed, are_owners}
use Rattle.api_policy.specs.Permits.{owner_only}
use Rattle.api_policy.specs.Quotas.{over_quota}
use Rattle.api_secgroup.specs.RuleParts.{bad_part, equal_rule, new_rule}
use Rattle.api_policy.specs.Seen.{group_seen, rule_seen}
use Rattle.api_policy.specs.Uses.{default_in_use, group_in_use, is_group_user, used_by_port}
use Rattle.api_ml2.specs.Carrying.{carries}
use Rattle.api_policy.specs.Visibility.{is_own}
use Rattle.api_types.specs.Given.{owner_of, value_of}
use Rattle.api_types.specs.Refusing.{needing, not_found, unless, when}
use Rattle.call_parts.specs.State.{State, drawing_at, is_last}
use Rattle.api_types.specs.Consistent.{IsConsistent}
use Rattle.api_types.specs.Consistent.Groups.{is_direction, is_ethertype, prefix_eq, same_match, same_rule}
use Rattle.api_types.specs.Consistent.InForm.{is_group_of}
use Rattle.api_types.specs.Consistent.Named.{is_group, is_registered}
use Rattle.api_types.specs.Consistent.Numbered.{times_in}
use Rattle.api_types.specs.Ident.{Ident}
use Rattle.api_types.specs.Lists.{Each, if_some, is_empty, is_some_so}
use Rattle.api_types.specs.Outcome.{Moved, Outcome}
use Rattle.api_types.specs.Printed.{NoRow, Reply}
use Rattle.api_types.specs.Registration.{Drawing, draw_at, draw_for, draw_of, drawn_id, is_named, with_count}
use Rattle.api_types.specs.RowLists.{RowLists}
use Rattle.api_types.specs.Table.{ident_eq}
use Rattle.api_types.specs.declared.call.Call.TheVariants.{Create}
use Rattle.api_types.specs.declared.call.Caller.{Caller}
use Rattle.api_types.specs.declared.call.IdText.{IdText}
use Rattle.api_types.specs.declared.form.Form.TheVariants.{Group as GroupOf}
use Rattle.api_types.specs.declared.form.GroupForm.{GroupForm}
use Rattle.api_types.specs.declared.form.RuleForm.{RuleForm}
use Rattle.api_types.specs.declared.group.Direction.{Direction}
use Rattle.api_types.specs.declared.group.Direction.TheVariants.{Egress, Ingress}
use Rattle.api_types.specs.declared.group.Ethertype.{Ethertype}
use Rattle.api_types.specs.declared.group.Ethertype.TheVariants.{Ipv4, Ipv6}
use Rattle.api_types.specs.declared.group.GroupRow.{GroupRow}
use Rattle.api_types.specs.declared.group.RuleRow.{RuleRow}
use Rattle.api_types.specs.declared.kind.Kind.TheVariants.{Group as GroupKind, Rule as RuleKind}
use Rattle.api_types.specs.declared.kind.Row.TheVariants.{Group}
use Rattle.api_types.specs.declared.project.ProjectRow.{ProjectRow}
use Rattle.api_types.specs.declared.refusal.Refusal.{Refusal}
use Rattle.api_types.specs.declared.refusal.Refusal.TheVariants.{CountersSpent}
use Rattle.api_types.specs.declared.refusal.UseRule.TheVariants.{SecurityGroupInUse}
use Rattle.net_addr.proofs.AddrLemmas.{addr_itself, addr_same}
use Rattle.net_addr.specs.Addresses.{addr_eq}
use Rattle.net_addr.specs.Prefixes.{Prefix}
use Rattle.net_settings.specs.Settings.{SettingsParts}
use Rattle.std.proofs.lemmas.Bool.Decides.{nat_tests}
use Rattle.std.specs.Option.{option_eq}
use Rattle.std.specs.Prelude.{find, if◌then◌else◌, nat_lt, option_map, option_to_list, ◌&&◌, ◌==◌}
use Rattle.std.specs.Str.{bytes_eq}
use Rattle.call_parts.proofs.DrawnLemmas.{drawn_is}
use Rattle.call_parts.proofs.OwnerLemmas.{owner_named}
use Rattle.kept_laws.proofs.DrawnIds.{drawn_differ}

-- a rule of another group is unlike
other_group : (q r : RuleRow) → ident_eq r.group q.group ≡ false → (same_rule q r ≡ false) × (same_rule r q ≡ false)
other_group q r away = (first_fails (ident_eq q.group r.group) _ (other r.group q.group away), first_fails (ident_eq r.group q.group) _ away)
  where
    other : (i j : Ident) → ident_eq i j ≡ false → ident_eq j i ≡ false
    other i j away = by_test (ident_eq j i) (ident_eq j i ≡ false) (λ same. false_true _ (sym away ∙ ident_sym j i same)) (λ fails. fails)

-- no rule is of a group whose id is new
unlike_rules : (rows : RowLists) (c : IsConsistent rows) (r : RuleRow) → times_in rows r.group ≡ 0 → Each (λ q. (same_rule q r ≡ false) × (same_rule r q ≡ false)) rows.rules
unlike_rules rows c r fresh k q at =
    let none : is_group rows.groups r.group ≡ false = none-counted (λ (g : GroupRow). ident_eq r.group g.id) rows.groups (omega (arith, fresh)) in
    other_group q r (unnamed (λ (g : GroupRow). g.id) r.group rows.groups (λ (q : RuleRow). q.group) rows.rules none c.named.groups.of_rules k q at)

-- the group that is made, with its two rules

module _ (rows : RowLists) (c : IsConsistent rows) (owner : List ℕ) (d : Drawing) (drawn : IsDrawing rows owner 3 d) (form : GroupForm) where
  abbrev group : GroupRow
  group = new_group form owner (drawn_id d 0)

  abbrev four : RuleRow
  four = egress_rule group Ipv4 (drawn_id d 1)

  abbrev six : RuleRow
  six = egress_rule group Ipv6 (drawn_id d 2)

  abbrev with_it : RowLists
  with_it = with_group d.rows group

  it_is : IsConsistent with_it
  it_is = group_pushed d.rows group (record { fresh = drawn.fresh 0 (lit< tt); drawn = drawn.drawn 0 (lit< tt); project = drawn.project; plain = refl }) drawn.consistent

  its_group : is_group_of with_it.groups owner group.id ≡ true
  its_group = any-last (λ (g : GroupRow). ident_eq group.id g.id && bytes_eq g.project owner) d.rows.groups group (both_and _ _ (ident_itself group.id) (bytes_itself owner))

  four_is : IsConsistent (with_rule with_it four)
  four_is = rule_pushed with_it four (record {
    fresh = fresh-push d.rows with_it group.id four.id (λ j. times-group d.rows j group) (drawn_differ d 0 1 (lit< tt)) (drawn.fresh 1 (lit< tt));
    drawn = drawn.drawn 1 (lit< tt);
    project = drawn.project;
    group = its_group;
    remote = refl;
    unlike = unlike_rules d.rows drawn.consistent four (drawn.fresh 0 (lit< tt));
  }) it_is

  pub group_with_rules : IsConsistent (with_rule (with_rule with_it four) six)
  group_with_rules = rule_pushed (with_rule with_it four) six (record {
    fresh = fresh-push with_it (with_rule with_it four) four.id six.id (λ j. times-rule with_it j four) (drawn_differ d 1 2 (lit< tt))
        (fresh-push d.rows with_it group.id six.id (λ j. times-group d.rows j group) (drawn_differ d 0 2 (lit< tt)) (drawn.fresh 2 (lit< tt)));
    drawn = drawn.drawn 2 (lit< tt);
    project = drawn.project;
    group = its_group;
    remote = refl;
    unlike = each-push (λ q. (same_rule q six ≡ false) × (same_rule six q ≡ false)) d.rows.rules four (unlike_rules d.rows drawn.consistent six (drawn.fresh 0 (lit< tt)))
        (and_fails (ident_eq group.id group.id) _ (and_fails (bytes_eq owner owner) _ refl), and_fails (ident_eq group.id group.id) _ (and_fails (bytes_eq owner owner) _ refl));
  }) four_is

pub group_created_kept : (settings : SettingsParts) (state : State) (caller : Caller) (form : GroupForm) (rows : RowLists) (reply : Reply) → IsConsistent state.rows → IsFormed caller (Create (GroupOf form))
    → group_created settings state caller form ≡ Moved rows reply → HaveKept settings state.rows rows
group_created_kept settings state caller form rows reply c formed h =
    let whole = and_both (not (is_empty caller.project)) (are_owners form.project_id form.tenant_id) formed in
    let owner : List ℕ = owner_of caller form.project_id form.tenant_id in
    let add_by : Drawing → Outcome = λ d. group_added caller d (new_group form owner (drawn_id d 0)) in
    let passed = unless_moved (group_creation_refusal settings state.rows caller form owner) (needing CountersSpent (drawing_at state owner 3) add_by) rows reply h in
    let drawing = needing_moved CountersSpent (drawing_at state owner 3) add_by rows reply passed.1 in
    let d : Drawing = drawing.0 in
    let drawn = drawing_is state owner 3 d c (owner_named caller form.project_id form.tenant_id whole.0 whole.1) (lit< tt) drawing.1 in
    let all = group_with_rules state.rows c owner d drawn form in
    let now : RowLists = with_rule (with_rule (with_it state.rows c owner d drawn form) (four state.rows c owner d drawn form)) (six state.rows c owner d drawn form) in
    subst (HaveKept settings state.rows) (moved_rows now rows _ reply drawing.2) (record {
      consistent = all;
      typed = λ t. let after = drawing_typed state.rows owner 3 d drawn t in record { prefixes = after.prefixes; macs = after.macs };
      carried = drawing_carried (carries settings.hosts) state.rows owner 3 d drawn;
    })

pub group_updated_kept : (settings : SettingsParts) (state : State) (caller : Caller) (name : IdText) (form : GroupForm) (rows : RowLists) (reply : Reply) → IsConsistent state.rows
    → group_updated state caller name form ≡ Moved rows reply → HaveKept settings state.rows rows
group_updated_kept settings state caller name form rows reply c h =
    let set : GroupRow → Outcome = λ g. group_replaced caller state.rows (changed_group form g) in
    let rest : GroupRow → Outcome = λ g. unless (group_update_refusal state caller form g) (set g) in
    let found = needing_moved (not_found GroupKind name.text) (group_seen state.rows caller name.id) rest rows reply h in
    let g : GroupRow = found.0 in
    let new : GroupRow = changed_group form g in
    let here = named_is (λ (q : GroupRow). q.id) (λ (q : GroupRow). is_own caller q.project) state.rows.groups name.id g found.1 in
    let passed = unless_moved (group_update_refusal state caller form g) (set g) rows reply found.2 in
    let put = put_at (λ (q : GroupRow). q.id) state.rows.groups here.place g new here.at refl (λ i. omega (arith, c.numbered.ids i)) in
    subst (HaveKept settings state.rows) (moved_rows (with_put state.rows (Group new)) rows _ reply passed.1) (record {
      consistent = subst (λ groups. IsConsistent (record state.rows { groups = groups })) (sym put)
          (group_renamed state.rows here.place g new here.at (record { id = refl; project = refl; is_default = refl }) c);
      typed = λ t. record { prefixes = t.prefixes; macs = t.macs };
      carried = λ held. held;
    })

-- a group that no port names and that is no default one is unused
unused_group : (state : State) (caller : Caller) (place : ℕ) (g : GroupRow) → slice_get state.rows.groups place ≡ Some g → IsConsistent state.rows → group_deletion_refusal state caller g ≡ None → IsUnusedGroup state.rows g.id
unused_group state caller place g at c passed =
    let used = group_in_use state.rows caller g.id in
    let os = owner_only caller g.project ∷ default_in_use g ∷ used ∷ when (is_last state) CountersSpent ∷ [] in
    let plain : g.is_default ≡ false = not_when g.is_default _ (none_refused os passed 1 (default_in_use g) refl) in
    record {
      plain = λ k q at_q same. ap (λ (x : GroupRow). x.is_default) (one_row (λ (x : GroupRow). ident_eq g.id x.id) state.rows.groups (omega (arith, c.numbered.ids g.id)) k place q g at_q at same (ident_itself g.id)) ∙ plain;
      unnamed = unfound (is_group_user g.id) state.rows.ports (unmapped (used_by_port state.rows caller SecurityGroupInUse GroupKind g.id) (find (is_group_user g.id) state.rows.ports) (none_refused os passed 2 used refl));
    }

pub group_deleted_kept : (settings : SettingsParts) (state : State) (caller : Caller) (name : IdText) (rows : RowLists) (reply : Reply) → IsConsistent state.rows
    → group_deleted state caller name ≡ Moved rows reply → HaveKept settings state.rows rows
group_deleted_kept settings state caller name rows reply c h =
    let gone : GroupRow → Outcome = λ g. accepted state.rows (group_gone state.rows g.id) (λ after. NoRow) in
    let rest : GroupRow → Outcome = λ g. unless (group_deletion_refusal state caller g) (gone g) in
    let found = needing_moved (not_found GroupKind name.text) (group_seen state.rows caller name.id) rest rows reply h in
    let g : GroupRow = found.0 in
    let here = named_is (λ (q : GroupRow). q.id) (λ (q : GroupRow). is_own caller q.project) state.rows.groups name.id g found.1 in
    let passed = unless_moved (group_deletion_refusal state caller g) (gone g) rows reply found.2 in
    subst (HaveKept settings state.rows) (sym (group_rows_gone state.rows c g.id) ∙ moved_rows (made state.rows (group_gone state.rows g.id)) rows _ reply passed.1) (record {
      consistent = group_off state.rows g.id (unused_group state caller here.place g here.at c passed.0) c;
      typed = λ t. record { prefixes = t.prefixes; macs = t.macs };
      carried = λ held. held;
    })

-- rules

-- equal rules are so both ways
nat_turned : (x y : ℕ) → (x == y) ≡ true → (y == x) ≡ true
nat_turned x y h = grind (arith, nat_tests, h)

option_turned : {X : Type 0} (test : X → X → Bool) → ((x y : X) → test x y ≡ true → test y x ≡ true) → (a b : Option X) → option_eq test a b ≡ true → option_eq test b a ≡ true
option_turned test turned None None h = refl
option_turned test turned None (Some y) h = false_true _ h
option_turned test turned (Some x) None h = false_true _ h
option_turned test turned (Some x) (Some y) h = turned x y h

prefix_turned : (p q : Prefix) → prefix_eq p q ≡ true → prefix_eq q p ≡ true
prefix_turned p q h =
    let both = and_both (addr_eq p.base q.base) (p.len == q.len) h in
    both_and (addr_eq q.base p.base) (q.len == p.len) (ap (λ x. addr_eq x p.base) (sym (addr_same p.base q.base both.0)) ∙ addr_itself p.base) (nat_turned p.len q.len both.1)

direction_turned : (a b : Direction) → is_direction a b ≡ true → is_direction b a ≡ true
direction_turned Ingress Ingress h = refl
direction_turned Ingress Egress h = false_true _ h
direction_turned Egress Ingress h = false_true _ h
direction_turned Egress Egress h = refl

ethertype_turned : (a b : Ethertype) → is_ethertype a b ≡ true → is_ethertype b a ≡ true
ethertype_turned Ipv4 Ipv4 h = refl
ethertype_turned Ipv4 Ipv6 h = false_true _ h
ethertype_turned Ipv6 Ipv4 h = false_true _ h
ethertype_turned Ipv6 Ipv6 h = refl

both_turned : (a b x y : Bool) → (a ≡ true → x ≡ true) → (b ≡ true → y ≡ true) → a && b ≡ true → x && y ≡ true
both_turned a b x y f g h = let both = and_both a b h in both_and x y (f both.0) (g both.1)

match_turned : (a b : RuleRow) → same_match a b ≡ true → same_match b a ≡ true
match_turned a b =
    let number = option_turned (λ x y. x == y) nat_turned in
    let e : (x y : Option ℕ) → Bool = option_eq (λ x y. x == y) in
    let f : (x y : Option Prefix) → Bool = option_eq prefix_eq in
    let g : (x y : Option Ident) → Bool = option_eq ident_eq in
    both_turned (e a.protocol b.protocol && e a.low b.low && e a.high b.high && f a.remote_prefix b.remote_prefix) (g a.remote_group b.remote_group)
    (e b.protocol a.protocol && e b.low a.low && e b.high a.high && f b.remote_prefix a.remote_prefix) (g b.remote_group a.remote_group)
    (both_turned (e a.protocol b.protocol && e a.low b.low && e a.high b.high) (f a.remote_prefix b.remote_prefix) (e b.protocol a.protocol && e b.low a.low && e b.high a.high) (f b.remote_prefix a.remote_prefix)
    (both_turned (e a.protocol b.protocol && e a.low b.low) (e a.high b.high) (e b.protocol a.protocol && e b.low a.low) (e b.high a.high)
    (both_turned (e a.protocol b.protocol) (e a.low b.low) (e b.protocol a.protocol) (e b.low a.low) (number a.protocol b.protocol) (number a.low b.low))
    (number a.high b.high))
    (option_turned prefix_eq prefix_turned a.remote_prefix b.remote_prefix))
    (option_turned ident_eq ident_sym a.remote_group b.remote_group)

rule_turned : (a b : RuleRow) → same_rule a b ≡ true → same_rule b a ≡ true
rule_turned a b =
    both_turned (ident_eq a.group b.group) (bytes_eq a.project b.project && (is_direction a.direction b.direction && (is_ethertype a.ethertype b.ethertype && same_match a b)))
    (ident_eq b.group a.group) (bytes_eq b.project a.project && (is_direction b.direction a.direction && (is_ethertype b.ethertype a.ethertype && same_match b a)))
    (ident_sym a.group b.group)
    (both_turned (bytes_eq a.project b.project) (is_direction a.direction b.direction && (is_ethertype a.ethertype b.ethertype && same_match a b))
    (bytes_eq b.project a.project) (is_direction b.direction a.direction && (is_ethertype b.ethertype a.ethertype && same_match b a))
    (λ same. ap (λ p. bytes_eq p a.project) (sym (bytes_same a.project b.project same)) ∙ bytes_itself a.project)
    (both_turned (is_direction a.direction b.direction) (is_ethertype a.ethertype b.ethertype && same_match a b)
    (is_direction b.direction a.direction) (is_ethertype b.ethertype a.ethertype && same_match b a)
    (direction_turned a.direction b.direction)
    (both_turned (is_ethertype a.ethertype b.ethertype) (same_match a b) (is_ethertype b.ethertype a.ethertype) (same_match b a)
    (ethertype_turned a.ethertype b.ethertype) (match_turned a b))))

-- for a project that is there, ids are drawn and nothing else comes
drawn_rules : (rows : RowLists) (name : List ℕ) (many : ℕ) (d : Drawing) → is_registered rows.projects name ≡ true → draw_of rows name many ≡ Some d → (d.rows.rules ≡ rows.rules) × (d.rows.groups ≡ rows.groups)
drawn_rules rows name many d known = by_position (is_named name) rows.projects (λ o. draw_at rows name many o ≡ Some d → (d.rows.rules ≡ rows.rules) × (d.rows.groups ≡ rows.groups))
    (λ unknown h. false_true _ (sym unknown ∙ known))
    (λ place named h. at_project place (slice_get rows.projects place) h)
  where
    at_project : (place : ℕ) (o : Option ProjectRow) → draw_for rows place many o ≡ Some d → (d.rows.rules ≡ rows.rules) × (d.rows.groups ≡ rows.groups)
    at_project place None h = none_some d _ h
    at_project place (Some p) h = at_test (nat_lt (p.count + many) (2 ^ 62)) h
      where
        at_test : (b : Bool) → (if b then Some (record { rows = with_count rows place p (p.count + many); ordinal = p.ordinal; first = p.count + 1 }) else None) ≡ Some d → (d.rows.rules ≡ rows.rules) × (d.rows.groups ≡ rows.groups)
        at_test true h = let same = some_equal (record { rows = with_count rows place p (p.count + many); ordinal = p.ordinal; first = p.count + 1 }) d h in
            (ap (λ (e : Drawing). e.rows.rules) (sym same), ap (λ (e : Drawing). e.rows.groups) (sym same))
        at_test false h = none_some d _ h

-- the remote group is of the group's project
remote_of : (rows : RowLists) (caller : Caller) (g : GroupRow) (remote : Option Ident) → unless_all GroupKind (is_remote_seen rows caller (Some g)) (option_to_list remote) ≡ None → if_some (is_group_of rows.groups g.project) remote ≡ true
remote_of rows caller g None h = refl
remote_of rows caller g (Some i) h =
    by (group_seen rows caller (Some i)) refl (not_false _ (unfound (λ j. not (is_remote_seen rows caller (Some g) j)) (i ∷ []) (unmapped _ (find (λ j. not (is_remote_seen rows caller (Some g) j)) (i ∷ [])) h) 0 i refl))
  where
    by : (o : Option GroupRow) → group_seen rows caller (Some i) ≡ o → is_some_so (is_remote_for caller (Some g)) o ≡ true → is_group_of rows.groups g.project i ≡ true
    by None e h = false_true _ h
    by (Some m) e h =
        let here = named_is (λ (q : GroupRow). q.id) (λ (q : GroupRow). is_own caller q.project) rows.groups (Some i) m e in
        at-any (λ (q : GroupRow). ident_eq i q.id && bytes_eq q.project g.project) rows.groups here.place m here.at
        (both_and _ _ (ap (λ (o : Option Ident). is_some_so (λ j. ident_eq j m.id) o) here.name_is ∙ ident_itself m.id) h)

pub rule_created_kept : (settings : SettingsParts) (state : State) (caller : Caller) (form : RuleForm) (rows : RowLists) (reply : Reply) → IsConsistent state.rows
    → rule_created settings state caller form ≡ Moved rows reply → HaveKept settings state.rows rows
rule_created_kept settings state caller form rows reply c h =
    let seen : Option GroupRow = group_seen state.rows caller (value_of form.security_group_id) in
    let add : GroupRow → Drawing → Outcome = λ g d. rule_added caller d.rows (new_rule form g (drawn_id d 0)) in
    let draw : GroupRow → Outcome = λ g. needing CountersSpent (drawing_at state g.project 1) (add g) in
    let rest : GroupRow → Outcome = λ g. unless (rule_creation_refusal settings state.rows caller g (new_rule form g no_id)) (draw g) in
    let first = unless_moved (rule_body_refusal state.rows caller form seen) (needing (not_found GroupKind (text_of (value_of form.security_group_id))) seen rest) rows reply h in
    let found = needing_moved (not_found GroupKind (text_of (value_of form.security_group_id))) seen rest rows reply first.1 in
    let g : GroupRow = found.0 in
    let here = named_is (λ (q : GroupRow). q.id) (λ (q : GroupRow). is_own caller q.project) state.rows.groups (value_of form.security_group_id) g found.1 in
    let passed = unless_moved (rule_creation_refusal settings state.rows caller g (new_rule form g no_id)) (draw g) rows reply found.2 in
    let drawing = needing_moved CountersSpent (drawing_at state g.project 1) (add g) rows reply passed.1 in
    let d : Drawing = drawing.0 in
    let known = c.named.projects.of_groups here.place g here.at in
    let drawn = drawing_is state g.project 1 d c (has_name_of state.rows g.project c known) (lit< tt) drawing.1 in
    let same = drawn_rules state.rows g.project 1 d known (drawn_is state g.project 1 d drawing.1) in
    let r : RuleRow = new_rule form g (drawn_id d 0) in
    let of_remote : Option Refusal = unless_all GroupKind (is_remote_seen state.rows caller seen) (option_to_list (value_of form.remote_group_id)) in
    let remote = none_refused (bad_part form ∷ of_remote ∷ []) first.0 1 of_remote refl in
    let of_equal = option_map rule_exists (equal_rule state.rows.rules (new_rule form g no_id)) in
    let equal = none_refused (owner_only caller g.project ∷ of_equal ∷ over_quota settings state.rows g.project RuleKind ∷ []) passed.0 1 of_equal refl in
    let unlike = unfound (λ q. same_rule q (new_rule form g no_id)) state.rows.rules (unmapped rule_exists (equal_rule state.rows.rules (new_rule form g no_id)) equal) in
    let both_ways : Each (λ q. (same_rule q r ≡ false) × (same_rule r q ≡ false)) state.rows.rules =
    λ k q at. (unlike k q at, by_test (same_rule r q) (same_rule r q ≡ false) (λ is. false_true _ (sym (unlike k q at) ∙ rule_turned r q is)) (λ fails. fails)) in
    subst (HaveKept settings state.rows) (moved_rows (with_rule d.rows r) rows _ reply drawing.2) (record {
      consistent = rule_pushed d.rows r (record {
        fresh = drawn.fresh 0 (lit< tt);
        drawn = drawn.drawn 0 (lit< tt);
        project = drawn.project;
        group = ap (λ groups. is_group_of groups g.project g.id) same.1
            ∙ at-any (λ (q : GroupRow). ident_eq g.id q.id && bytes_eq q.project g.project) state.rows.groups here.place g here.at (both_and _ _ (ident_itself g.id) (bytes_itself g.project));
        remote = ap (λ groups. if_some (is_group_of groups g.project) r.remote_group) same.1
            ∙ remote_of state.rows caller g (value_of form.remote_group_id) (ap (λ o. unless_all GroupKind (is_remote_seen state.rows caller o) (option_to_list (value_of form.remote_group_id))) (sym found.1) ∙ remote);
        unlike = subst (Each (λ q. (same_rule q r ≡ false) × (same_rule r q ≡ false))) (sym same.0) both_ways;
      }) drawn.consistent;
      typed = λ t. let after = drawing_typed state.rows g.project 1 d drawn t in record { prefixes = after.prefixes; macs = after.macs };
      carried = drawing_carried (carries settings.hosts) state.rows g.project 1 d drawn;
    })

pub rule_deleted_kept : (settings : SettingsParts) (state : State) (caller : Caller) (name : IdText) (rows : RowLists) (reply : Reply) → IsConsistent state.rows
    → rule_deleted state caller name ≡ Moved rows reply → HaveKept settings state.rows rows
rule_deleted_kept settings state caller name rows reply c h =
    let gone : RuleRow → Outcome = λ r. accepted state.rows (Drop RuleKind r.id ∷ []) (λ after. NoRow) in
    let rest : RuleRow → Outcome = λ r. unless (rule_deletion_refusal state caller r) (gone r) in
    let found = needing_moved (not_found RuleKind name.text) (rule_seen state.rows caller name.id) rest rows reply h in
    let r : RuleRow = found.0 in
    let passed = unless_moved (rule_deletion_refusal state caller r) (gone r) rows reply found.2 in
    subst (HaveKept settings state.rows) (moved_rows (without_row state.rows RuleKind r.id) rows _ reply passed.1) (record {
      consistent = rules_gone (λ (q : RuleRow). not (ident_eq r.id q.id)) state.rows c;
      typed = λ t. record { prefixes = t.prefixes; macs = t.macs };
      carried = λ held. held;
    })
