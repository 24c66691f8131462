use Rattle.std.proofs.Common.{◌∙◌, [], None, Some, subst, sym}
use Rattle.std.specs.Prelude.{IfErr, IfOk}
use Rattle.std.proofs.lemmas.Result.{err_from_is_err_and}
use Rattle.api_types.specs.Outcome.{Outcome}
use Rattle.api_types.specs.Printed.{NewRow}
use Rattle.call_parts.specs.Answers.{IsRefusalOf, Leads}
use Rattle.plan_routers.specs.RouterCalls.{gateway_network, router_shown}
use Rattle.plan_routers.proofs.CreationLemmas.{made_as, made_refused}
use Rattle.plan_routers.proofs.creation.make_router.Goals as goal

pub returns-in_err-ensure_creatable-clause-err : goal.returns-in_err-ensure_creatable-clause-err
returns-in_err-ensure_creatable-clause-err c =
    let asking = c.args.asking.now in
    let p = err_from_is_err_and c.from_residual.result c.from_residual.ensures.1 in
    rw (p.1, p.2) (made_refused asking.settings asking.state asking.caller c.args.form.now c.args.owner.now c.in_err-ensure_creatable.field-0.0 c.in_err-ensure_creatable.ensures)

pub returns-in-Some-clause-ok : goal.returns-in-Some-clause-ok
returns-in-Some-clause-ok c =
    let asking = c.args.asking.now in
    let form = c.args.form.now in
    let seen = sym (λ j. gateway_network (c.rows.ensures.rows j) (c.caller.ensures j) form) ∙ sym c.in-Some.ensures in
    let led = made_as asking.settings asking.state asking.caller form c.args.owner.now (Some c.in-Some.network.now) c.in_ok-ensure_creatable.ensures seen in
    subst (λ (o : Outcome). IfOk c.make_with_gateway.result (λ p. Leads asking.state.rows o p.draft (λ after. NewRow (router_shown after asking.caller p.row [])))) (sym led) c.make_with_gateway.ensures.ok

pub returns-in-Some-clause-err : goal.returns-in-Some-clause-err
returns-in-Some-clause-err c =
    let asking = c.args.asking.now in
    let form = c.args.form.now in
    let seen = sym (λ j. gateway_network (c.rows.ensures.rows j) (c.caller.ensures j) form) ∙ sym c.in-Some.ensures in
    let led = made_as asking.settings asking.state asking.caller form c.args.owner.now (Some c.in-Some.network.now) c.in_ok-ensure_creatable.ensures seen in
    subst (λ (o : Outcome). IfErr c.make_with_gateway.result (IsRefusalOf o)) (sym led) c.make_with_gateway.ensures.err

pub returns-in-None-clause-ok : goal.returns-in-None-clause-ok
returns-in-None-clause-ok c =
    let asking = c.args.asking.now in
    let form = c.args.form.now in
    let seen = sym (λ j. gateway_network (c.rows.ensures.rows j) (c.caller.ensures j) form) ∙ sym c.in-None.ensures in
    let led = made_as asking.settings asking.state asking.caller form c.args.owner.now None c.in_ok-ensure_creatable.ensures seen in
    subst (λ (o : Outcome). IfOk c.make_bare.result (λ p. Leads asking.state.rows o p.draft (λ after. NewRow (router_shown after asking.caller p.row [])))) (sym led) c.make_bare.ensures.ok

pub returns-in-None-clause-err : goal.returns-in-None-clause-err
returns-in-None-clause-err c =
    let asking = c.args.asking.now in
    let form = c.args.form.now in
    let seen = sym (λ j. gateway_network (c.rows.ensures.rows j) (c.caller.ensures j) form) ∙ sym c.in-None.ensures in
    let led = made_as asking.settings asking.state asking.caller form c.args.owner.now None c.in_ok-ensure_creatable.ensures seen in
    subst (λ (o : Outcome). IfErr c.make_bare.result (IsRefusalOf o)) (sym led) c.make_bare.ensures.err
