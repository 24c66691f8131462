use Rattle.std.proofs.Common.{◌≡◌, ◌∙◌, None, Some, ap, subst, sym}
use Rattle.std.specs.Prelude.{option_to_list}
use Rattle.std.proofs.lemmas.Result.{err_from_is_err_and}
use Rattle.api_policy.specs.Seen.{group_seen}
use Rattle.api_types.specs.Given.{value_of}
use Rattle.api_types.specs.Refusing.{not_found}
use Rattle.api_types.specs.declared.kind.Kind.TheVariants.{Group as GroupKind}
use Rattle.call_parts.specs.Answers.{IsOrMemory, IsRefusalIn}
use Rattle.call_parts.specs.BodyNames.{text_of, unless_all}
use Rattle.plan_groups.specs.GroupCalls.{is_remote_seen, rule_creation_refusal}
use Rattle.api_secgroup.specs.RuleOf.{bare_rule}
use Rattle.api_secgroup.specs.declared.parts.RuleParts.{RuleParts}
use Rattle.plan_groups.proofs.OwnerLemmas.{project_named}
use Rattle.plan_groups.proofs.RuleLemmas.{body_passes, creation_refused, group_unfound, remote_refused}
use Rattle.plan_groups.proofs.rule_creation.open_group.Goals as goal

pub returns-in_err-ensure_remote_seen-clause-err : goal.returns-in_err-ensure_remote_seen-clause-err
returns-in_err-ensure_remote_seen-clause-err c =
    let asking = c.args.asking.now in
    let e = c.in_err-ensure_remote_seen.field-0.0 in
    let asked = ap (λ (p : RuleParts). p.remote_group) c.requires.parts in
    let is = c.group_seen-group.ensures ∙ (λ j. group_seen (c.rows-rows.ensures.rows j) (c.caller-caller.ensures j) (c.value_of.ensures j)) in
    let refused = subst (λ o. IsRefusalIn o e) (λ j. unless_all GroupKind (is_remote_seen (c.rows-rows.ensures.rows j) (c.caller-caller.ensures j) (is j)) (option_to_list (asked j))) c.in_err-ensure_remote_seen.ensures in
    let p = err_from_is_err_and c.from_residual.result c.from_residual.ensures.1 in
    rw (p.1, p.2) (remote_refused asking.settings asking.state asking.caller c.args.form.now c.requires.good e refused)

pub returns-in_default-clause-err : goal.returns-in_default-clause-err
returns-in_default-clause-err c =
    let asking = c.args.asking.now in
    let asked = ap (λ (p : RuleParts). p.remote_group) c.requires.parts in
    let is = c.group_seen-group.ensures ∙ (λ j. group_seen (c.rows-rows.ensures.rows j) (c.caller-caller.ensures j) (c.value_of.ensures j)) in
    let remote = (λ j. unless_all GroupKind (is_remote_seen (sym c.rows-rows.ensures.rows j) (sym c.caller-caller.ensures j) (sym is j)) (option_to_list (sym asked j))) ∙ c.in_ok-ensure_remote_seen.ensures in
    let none = sym (λ j. group_seen (c.rows-rows.ensures.rows j) (c.caller-caller.ensures j) (c.value_of.ensures j)) ∙ sym c.in_default.ensures in
    group_unfound asking.settings asking.state asking.caller c.args.form.now c.requires.good c.none_with_id.result remote none
    (subst (λ i. IsOrMemory (not_found GroupKind (text_of i)) c.none_with_id.result) c.value_of-id.ensures c.none_with_id.ensures)

pub returns-in_err-ensure_creatable-clause-err : goal.returns-in_err-ensure_creatable-clause-err
returns-in_err-ensure_creatable-clause-err c =
    let settings = c.args.asking.now.settings in
    let state = c.args.asking.now.state in
    let caller = c.args.asking.now.caller in
    let form = c.args.form.now in
    let g = c.in-Some.group.now in
    let e = c.in_err-ensure_creatable.field-0.0 in
    let asked = ap (λ (p : RuleParts). p.remote_group) c.requires.parts in
    let is = c.group_seen-group.ensures ∙ (λ j. group_seen (c.rows-rows.ensures.rows j) (c.caller-caller.ensures j) (c.value_of.ensures j)) in
    let remote = (λ j. unless_all GroupKind (is_remote_seen (sym c.rows-rows.ensures.rows j) (sym c.caller-caller.ensures j) (sym is j)) (option_to_list (sym asked j))) ∙ c.in_ok-ensure_remote_seen.ensures in
    let found = sym (λ j. group_seen (c.rows-rows.ensures.rows j) (c.caller-caller.ensures j) (c.value_of.ensures j)) ∙ sym c.in-Some.ensures in
    let refused = subst (λ (p : RuleParts). rule_creation_refusal settings state.rows caller g (bare_rule g.id g.project p) ≡ Some e) c.requires.parts c.in_err-ensure_creatable.ensures in
    let p = err_from_is_err_and c.from_residual-in_err-ensure_creatable.result c.from_residual-in_err-ensure_creatable.ensures.1 in
    rw (p.1, p.2) (creation_refused settings state caller form g e found (body_passes settings state caller form c.requires.good g found remote) refused)

pub returns-clause-ok : goal.returns-clause-ok
returns-clause-ok c =
    let settings = c.args.asking.now.settings in
    let state = c.args.asking.now.state in
    let caller = c.args.asking.now.caller in
    let form = c.args.form.now in
    let g = c.in-Some.group.now in
    let asked = ap (λ (p : RuleParts). p.remote_group) c.requires.parts in
    let is = c.group_seen-group.ensures ∙ (λ j. group_seen (c.rows-rows.ensures.rows j) (c.caller-caller.ensures j) (c.value_of.ensures j)) in
    let remote = (λ j. unless_all GroupKind (is_remote_seen (sym c.rows-rows.ensures.rows j) (sym c.caller-caller.ensures j) (sym is j)) (option_to_list (sym asked j))) ∙ c.in_ok-ensure_remote_seen.ensures in
    let found = sym (λ j. group_seen (c.rows-rows.ensures.rows j) (c.caller-caller.ensures j) (c.value_of.ensures j)) ∙ sym c.in-Some.ensures in
    record {
      seen = found;
      body = body_passes settings state caller form c.requires.good g found remote;
      free = subst (λ (p : RuleParts). rule_creation_refusal settings state.rows caller g (bare_rule g.id g.project p) ≡ None) c.requires.parts c.in_ok-ensure_creatable.ensures;
    }

pub returns-clause-named : goal.returns-clause-named
returns-clause-named c =
    let state = c.args.asking.now.state in
    let caller = c.args.asking.now.caller in
    let found = sym (λ j. group_seen (c.rows-rows.ensures.rows j) (c.caller-caller.ensures j) (c.value_of.ensures j)) ∙ sym c.in-Some.ensures in
    project_named state.rows caller (value_of c.args.form.now.security_group_id) c.in-Some.group.now c.rows-rows.ensures.consistent found
