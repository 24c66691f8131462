use Rattle.std.proofs.Common.{◌≡◌, ◌∙◌, [], None, Option, Some, ap, subst, sym}
use Rattle.std.specs.Prelude.{IfErr, IfOk}
use Rattle.std.proofs.lemmas.Result.{err_from_is_err_and}
use Rattle.api_types.specs.Outcome.{Outcome}
use Rattle.api_types.specs.Printed.{OneRow}
use Rattle.api_types.specs.declared.network.NetworkRow.{NetworkRow}
use Rattle.api_types.specs.declared.refusal.Refusal.{Refusal}
use Rattle.api_types.specs.declared.router.RouterRow.{RouterRow}
use Rattle.call_parts.specs.Answers.{IsRefusalIn, IsRefusalOf, Leads}
use Rattle.plan_routers.specs.RouterCalls.{changed_router, gateway_network, new_gateway, router_changed, router_moved, router_shown, update_refusal}
use Rattle.plan_routers.proofs.UpdateLemmas.{changed_as, changed_refused}
use Rattle.plan_routers.proofs.update.change_router.Goals as goal

pub returns-in_err-ensure_changeable-clause-err : goal.returns-in_err-ensure_changeable-clause-err
returns-in_err-ensure_changeable-clause-err c =
    let asking = c.args.asking.now in
    let form = c.args.form.now in
    let old = c.args.old.now in
    let e = c.in_err-ensure_changeable.field-0.0 in
    let refusal_is : update_refusal c.rows-rows.result.now c.caller-caller.result.now form old c.in_ok-new.new ≡ update_refusal asking.state.rows asking.caller form old (changed_router form old) =
    λ j. update_refusal (c.rows-rows.ensures.rows j) (c.caller-caller.ensures j) form old (c.in_ok-new.ensures j) in
    let refused = subst (λ (o : Option Refusal). IsRefusalIn o e) refusal_is c.in_err-ensure_changeable.ensures in
    let p = err_from_is_err_and c.from_residual-in_err-ensure_changeable.result c.from_residual-in_err-ensure_changeable.ensures.1 in
    rw (p.1, p.2) (changed_refused asking.settings asking.state asking.caller form old (changed_router form old) e refused)

pub returns-in-Some-clause-ok : goal.returns-in-Some-clause-ok
returns-in-Some-clause-ok c =
    let asking = c.args.asking.now in
    let form = c.args.form.now in
    let old = c.args.old.now in
    let new : RouterRow = c.in_ok-new.new in
    let n : NetworkRow = c.in-Some.network.now in
    let refusal_is : update_refusal c.rows-rows.result.now c.caller-caller.result.now form old new ≡ update_refusal asking.state.rows asking.caller form old new =
    λ j. update_refusal (c.rows-rows.ensures.rows j) (c.caller-caller.ensures j) form old new in
    let seen = sym (λ j. new_gateway (gateway_network (c.rows-rows.ensures.rows j) (c.caller-caller.ensures j) form) new.gateway) ∙ sym c.in-Some.ensures in
    let led = changed_as asking.settings asking.state asking.caller form old new (Some n) (sym refusal_is ∙ c.in_ok-ensure_changeable.ensures) seen in
    let same : router_moved asking.settings asking.state asking.caller form old new (Some n) ≡ router_changed asking.settings asking.state asking.caller form old (changed_router form old) =
    sym led ∙ ap (router_changed asking.settings asking.state asking.caller form old) c.in_ok-new.ensures in
    subst (λ (o : Outcome). IfOk c.move_to.result (λ p. Leads asking.state.rows o p.draft (λ after. OneRow (router_shown after asking.caller p.row [])))) same c.move_to.ensures.ok

pub returns-in-Some-clause-err : goal.returns-in-Some-clause-err
returns-in-Some-clause-err c =
    let asking = c.args.asking.now in
    let form = c.args.form.now in
    let old = c.args.old.now in
    let new : RouterRow = c.in_ok-new.new in
    let n : NetworkRow = c.in-Some.network.now in
    let refusal_is : update_refusal c.rows-rows.result.now c.caller-caller.result.now form old new ≡ update_refusal asking.state.rows asking.caller form old new =
    λ j. update_refusal (c.rows-rows.ensures.rows j) (c.caller-caller.ensures j) form old new in
    let seen = sym (λ j. new_gateway (gateway_network (c.rows-rows.ensures.rows j) (c.caller-caller.ensures j) form) new.gateway) ∙ sym c.in-Some.ensures in
    let led = changed_as asking.settings asking.state asking.caller form old new (Some n) (sym refusal_is ∙ c.in_ok-ensure_changeable.ensures) seen in
    let same : router_moved asking.settings asking.state asking.caller form old new (Some n) ≡ router_changed asking.settings asking.state asking.caller form old (changed_router form old) =
    sym led ∙ ap (router_changed asking.settings asking.state asking.caller form old) c.in_ok-new.ensures in
    subst (λ (o : Outcome). IfErr c.move_to.result (IsRefusalOf o)) same c.move_to.ensures.err

pub returns-in-None-clause-ok : goal.returns-in-None-clause-ok
returns-in-None-clause-ok c =
    let asking = c.args.asking.now in
    let form = c.args.form.now in
    let old = c.args.old.now in
    let new : RouterRow = c.in_ok-new.new in
    let refusal_is : update_refusal c.rows-rows.result.now c.caller-caller.result.now form old new ≡ update_refusal asking.state.rows asking.caller form old new =
    λ j. update_refusal (c.rows-rows.ensures.rows j) (c.caller-caller.ensures j) form old new in
    let seen = sym (λ j. new_gateway (gateway_network (c.rows-rows.ensures.rows j) (c.caller-caller.ensures j) form) new.gateway) ∙ sym c.in-None.ensures in
    let led = changed_as asking.settings asking.state asking.caller form old new None (sym refusal_is ∙ c.in_ok-ensure_changeable.ensures) seen in
    let same : router_moved asking.settings asking.state asking.caller form old new None ≡ router_changed asking.settings asking.state asking.caller form old (changed_router form old) =
    sym led ∙ ap (router_changed asking.settings asking.state asking.caller form old) c.in_ok-new.ensures in
    subst (λ (o : Outcome). IfOk c.move_bare.result (λ p. Leads asking.state.rows o p.draft (λ after. OneRow (router_shown after asking.caller p.row [])))) same c.move_bare.ensures.ok

pub returns-in-None-clause-err : goal.returns-in-None-clause-err
returns-in-None-clause-err c =
    let asking = c.args.asking.now in
    let form = c.args.form.now in
    let old = c.args.old.now in
    let new : RouterRow = c.in_ok-new.new in
    let refusal_is : update_refusal c.rows-rows.result.now c.caller-caller.result.now form old new ≡ update_refusal asking.state.rows asking.caller form old new =
    λ j. update_refusal (c.rows-rows.ensures.rows j) (c.caller-caller.ensures j) form old new in
    let seen = sym (λ j. new_gateway (gateway_network (c.rows-rows.ensures.rows j) (c.caller-caller.ensures j) form) new.gateway) ∙ sym c.in-None.ensures in
    let led = changed_as asking.settings asking.state asking.caller form old new None (sym refusal_is ∙ c.in_ok-ensure_changeable.ensures) seen in
    let same : router_moved asking.settings asking.state asking.caller form old new None ≡ router_changed asking.settings asking.state asking.caller form old (changed_router form old) =
    sym led ∙ ap (router_changed asking.settings asking.state asking.caller form old) c.in_ok-new.ensures in
    subst (λ (o : Outcome). IfErr c.move_bare.result (IsRefusalOf o)) same c.move_bare.ensures.err
