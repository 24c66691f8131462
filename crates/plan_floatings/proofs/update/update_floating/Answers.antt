use Rattle.std.proofs.Common.{[], subst, sym}
use Rattle.std.specs.Prelude.{IfErr, IfOk}
use Rattle.api_types.specs.Outcome.{Outcome}
use Rattle.api_types.specs.Printed.{OneRow}
use Rattle.call_parts.specs.Answers.{IsRefusalOf, Leads}
use Rattle.plan_floatings.specs.FloatingCalls.{floating_shown}
use Rattle.plan_floatings.proofs.CallLemmas.{updated_on}
use Rattle.plan_floatings.proofs.update.update_floating.Goals as goal

pub returns-clause-ok : goal.returns-clause-ok
returns-clause-ok c =
    let state = c.args.asking.now.state in
    let caller = c.args.asking.now.caller in
    let on = updated_on state caller c.args.name.now c.args.form.now c.in_ok-ensure_port_named.ensures c.in_ok-floating.floating.now c.in_ok-floating.ensures.found in
    subst (λ (o : Outcome). IfOk c.change_floating.result (λ p. Leads state.rows o p.draft (λ after. OneRow (floating_shown after caller p.row [])))) (sym on) c.change_floating.ensures.ok

pub returns-clause-err : goal.returns-clause-err
returns-clause-err c =
    let state = c.args.asking.now.state in
    let caller = c.args.asking.now.caller in
    let on = updated_on state caller c.args.name.now c.args.form.now c.in_ok-ensure_port_named.ensures c.in_ok-floating.floating.now c.in_ok-floating.ensures.found in
    subst (λ (o : Outcome). IfErr c.change_floating.result (IsRefusalOf o)) (sym on) c.change_floating.ensures.err
