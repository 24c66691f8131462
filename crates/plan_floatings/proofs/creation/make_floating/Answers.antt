use Rattle.std.proofs.Common.{◌∙◌, Option, [], subst, sym}
use Rattle.std.specs.Prelude.{IfErr, IfOk}
use Rattle.std.proofs.lemmas.Result.{err_from_is_err_and}
use Rattle.api_policy.specs.Seen.{network_seen}
use Rattle.api_types.specs.Given.{value_of}
use Rattle.api_types.specs.Ident.{Ident}
use Rattle.api_types.specs.Outcome.{Outcome}
use Rattle.api_types.specs.Printed.{NewRow}
use Rattle.api_types.specs.Refusing.{not_found}
use Rattle.api_types.specs.declared.kind.Kind.TheVariants.{Network as NetworkKind}
use Rattle.api_types.specs.declared.refusal.Refusal.{Refusal}
use Rattle.call_parts.specs.Answers.{IsOrMemory, IsRefusalIn, IsRefusalOf, Leads}
use Rattle.call_parts.specs.BodyNames.{text_of}
use Rattle.plan_floatings.specs.FloatingCalls.{body_refusal, floating_shown}
use Rattle.plan_floatings.proofs.CallLemmas.{made_on, made_refused, made_unfound}
use Rattle.plan_floatings.proofs.creation.make_floating.Goals as goal

pub returns-in_err-ensure_body_valid-clause-err : goal.returns-in_err-ensure_body_valid-clause-err
returns-in_err-ensure_body_valid-clause-err c =
    let state = c.args.asking.now.state in
    let caller = c.args.asking.now.caller in
    let form = c.args.form.now in
    let owner = c.args.owner.now in
    let network = network_seen state.rows caller (value_of form.floating_network_id) in
    let e = c.in_err-ensure_body_valid.field-0.0 in
    let refused = subst (λ (r : Option Refusal). IsRefusalIn r e)
    (λ j. body_refusal (c.rows-rows.ensures.rows j) (c.caller-caller.ensures j) form owner (network_seen (c.rows-rows.ensures.rows j) (c.caller-caller.ensures j) (value_of form.floating_network_id)))
    c.in_err-ensure_body_valid.ensures in
    let p = err_from_is_err_and c.from_residual.result c.from_residual.ensures.1 in
    rw (p.1, p.2) (made_refused c.args.asking.now.settings state caller form owner network e refused)

pub returns-in_default-clause-err : goal.returns-in_default-clause-err
returns-in_default-clause-err c =
    let state = c.args.asking.now.state in
    let caller = c.args.asking.now.caller in
    let form = c.args.form.now in
    let owner = c.args.owner.now in
    let network = network_seen state.rows caller (value_of form.floating_network_id) in
    let passed = sym (λ j. body_refusal (c.rows-rows.ensures.rows j) (c.caller-caller.ensures j) form owner (network_seen (c.rows-rows.ensures.rows j) (c.caller-caller.ensures j) (value_of form.floating_network_id)))
    ∙ c.in_ok-ensure_body_valid.ensures in
    let none = sym (λ j. network_seen (c.rows-rows.ensures.rows j) (c.caller-caller.ensures j) (c.value_of.ensures j)) ∙ sym c.in_default.ensures in
    made_unfound c.args.asking.now.settings state caller form owner network passed c.none_with_id.result none
    (subst (λ (i : Option Ident). IsOrMemory (not_found NetworkKind (text_of i)) c.none_with_id.result) c.value_of-id.ensures c.none_with_id.ensures)

pub returns-clause-ok : goal.returns-clause-ok
returns-clause-ok c =
    let state = c.args.asking.now.state in
    let caller = c.args.asking.now.caller in
    let form = c.args.form.now in
    let owner = c.args.owner.now in
    let network = network_seen state.rows caller (value_of form.floating_network_id) in
    let passed = sym (λ j. body_refusal (c.rows-rows.ensures.rows j) (c.caller-caller.ensures j) form owner (network_seen (c.rows-rows.ensures.rows j) (c.caller-caller.ensures j) (value_of form.floating_network_id)))
    ∙ c.in_ok-ensure_body_valid.ensures in
    let found = sym (λ j. network_seen (c.rows-rows.ensures.rows j) (c.caller-caller.ensures j) (c.value_of.ensures j)) ∙ sym c.in-Some.ensures in
    let on = made_on c.args.asking.now.settings state caller form owner network passed c.in-Some.network.now found in
    subst (λ (o : Outcome). IfOk c.make_on.result (λ p. Leads state.rows o p.draft (λ after. NewRow (floating_shown after caller p.row [])))) (sym on) c.make_on.ensures.ok

pub returns-clause-err : goal.returns-clause-err
returns-clause-err c =
    let state = c.args.asking.now.state in
    let caller = c.args.asking.now.caller in
    let form = c.args.form.now in
    let owner = c.args.owner.now in
    let network = network_seen state.rows caller (value_of form.floating_network_id) in
    let passed = sym (λ j. body_refusal (c.rows-rows.ensures.rows j) (c.caller-caller.ensures j) form owner (network_seen (c.rows-rows.ensures.rows j) (c.caller-caller.ensures j) (value_of form.floating_network_id)))
    ∙ c.in_ok-ensure_body_valid.ensures in
    let found = sym (λ j. network_seen (c.rows-rows.ensures.rows j) (c.caller-caller.ensures j) (c.value_of.ensures j)) ∙ sym c.in-Some.ensures in
    let on = made_on c.args.asking.now.settings state caller form owner network passed c.in-Some.network.now found in
    subst (λ (o : Outcome). IfErr c.make_on.result (IsRefusalOf o)) (sym on) c.make_on.ensures.err
