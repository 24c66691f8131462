use Rattle.std.proofs.Common.{◌∙◌, Option, [], subst, sym}
use Rattle.std.specs.Prelude.{IfErr, IfOk}
use Rattle.std.proofs.lemmas.Result.{err_from_is_err_and}
use Rattle.api_types.specs.Outcome.{Outcome}
use Rattle.api_types.specs.Printed.{NewRow}
use Rattle.api_types.specs.declared.refusal.Refusal.{Refusal}
use Rattle.call_parts.specs.Answers.{IsRefusalIn, IsRefusalOf, Leads}
use Rattle.plan_floatings.specs.FloatingCalls.{creation_refusal, floating_shown}
use Rattle.plan_floatings.proofs.CallLemmas.{on_passed, on_refused}
use Rattle.plan_floatings.proofs.creation.make_on.Goals as goal

pub returns-in_err-ensure_creatable-clause-err : goal.returns-in_err-ensure_creatable-clause-err
returns-in_err-ensure_creatable-clause-err c =
    let form = c.args.form.now in
    let n = c.args.network.now in
    let e = c.in_err-ensure_creatable.field-0.0 in
    let refused = subst (λ (r : Option Refusal). IsRefusalIn r e) (λ j. creation_refusal (c.rows.ensures.rows j) (c.caller.ensures j) form n) c.in_err-ensure_creatable.ensures in
    let p = err_from_is_err_and c.from_residual.result c.from_residual.ensures.1 in
    rw (p.1, p.2) (on_refused c.args.asking.now.settings c.args.asking.now.state c.args.asking.now.caller form c.args.owner.now n e refused)

pub returns-clause-ok : goal.returns-clause-ok
returns-clause-ok c =
    let state = c.args.asking.now.state in
    let caller = c.args.asking.now.caller in
    let form = c.args.form.now in
    let n = c.args.network.now in
    let passed = sym (λ j. creation_refusal (c.rows.ensures.rows j) (c.caller.ensures j) form n) ∙ c.in_ok-ensure_creatable.ensures in
    let on = on_passed c.args.asking.now.settings state caller form c.args.owner.now n passed in
    subst (λ (o : Outcome). IfOk c.place_floating.result (λ p. Leads state.rows o p.draft (λ after. NewRow (floating_shown after caller p.row [])))) (sym on) c.place_floating.ensures.ok

pub returns-clause-err : goal.returns-clause-err
returns-clause-err c =
    let state = c.args.asking.now.state in
    let caller = c.args.asking.now.caller in
    let form = c.args.form.now in
    let n = c.args.network.now in
    let passed = sym (λ j. creation_refusal (c.rows.ensures.rows j) (c.caller.ensures j) form n) ∙ c.in_ok-ensure_creatable.ensures in
    let on = on_passed c.args.asking.now.settings state caller form c.args.owner.now n passed in
    subst (λ (o : Outcome). IfErr c.place_floating.result (IsRefusalOf o)) (sym on) c.place_floating.ensures.err
