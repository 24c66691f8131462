use Rattle.std.proofs.Common.{◌∙◌, Option, subst, sym}
use Rattle.std.proofs.lemmas.Result.{err_from_is_err_and}
use Rattle.api_types.specs.RowLists.{RowLists}
use Rattle.api_types.specs.declared.refusal.Refusal.{Refusal}
use Rattle.call_parts.specs.Answers.{IsRefusalIn}
use Rattle.plan_ports.specs.Plans.{IsNextSupply, next_refused}
use Rattle.plan_ports.specs.PortCalls.{changed_port}
use Rattle.plan_ports.proofs.CallLemmas.{change_last, change_refused, change_replaces, change_unfixed, left_at}
use Rattle.plan_ports.proofs.update.change_port.Goals as goal

pub returns-in_err-ensure_changeable-clause-err : goal.returns-in_err-ensure_changeable-clause-err
returns-in_err-ensure_changeable-clause-err c =
    let settings = c.args.asking.now.settings in
    let state = c.args.asking.now.state in
    let caller = c.args.asking.now.caller in
    let form = c.args.form.now in
    let port = c.args.port.now in
    let s = c.in_ok-supply.supply in
    let is = subst (λ (r : RowLists). IsNextSupply r form port s) c.rows-rows.ensures.rows c.in_ok-supply.ensures in
    let e = c.in_err-ensure_changeable.field-0.0 in
    let refused = subst (λ (r : Option Refusal). IsRefusalIn r e) (λ j. next_refused (c.rows-rows.ensures.rows j) (c.caller.ensures j) form port s) c.in_err-ensure_changeable.ensures in
    let p = err_from_is_err_and c.from_residual-in_err-ensure_changeable.result c.from_residual-in_err-ensure_changeable.ensures.1 in
    rw (p.1, p.2) (change_refused settings state caller form c.args.network.now port s is e refused)

pub returns-in_err-fixed-clause-err : goal.returns-in_err-fixed-clause-err
returns-in_err-fixed-clause-err c =
    let settings = c.args.asking.now.settings in
    let state = c.args.asking.now.state in
    let caller = c.args.asking.now.caller in
    let form = c.args.form.now in
    let port = c.args.port.now in
    let s = c.in_ok-supply.supply in
    let is = subst (λ (r : RowLists). IsNextSupply r form port s) c.rows-rows.ensures.rows c.in_ok-supply.ensures in
    let passed = sym (λ j. next_refused (c.rows-rows.ensures.rows j) (c.caller.ensures j) form port s) ∙ c.in_ok-ensure_changeable.ensures in
    let p = err_from_is_err_and c.from_residual-in_err-fixed.result c.from_residual-in_err-fixed.ensures.1 in
    rw (p.1, p.2) (change_unfixed settings state caller form c.args.network.now port s is passed c.in_err-fixed.field-0.0 c.in_err-fixed.ensures.spent)

pub returns-in_err-ensure_version_left-clause-err : goal.returns-in_err-ensure_version_left-clause-err
returns-in_err-ensure_version_left-clause-err c =
    let settings = c.args.asking.now.settings in
    let state = c.args.asking.now.state in
    let caller = c.args.asking.now.caller in
    let form = c.args.form.now in
    let port = c.args.port.now in
    let s = c.in_ok-supply.supply in
    let is = subst (λ (r : RowLists). IsNextSupply r form port s) c.rows-rows.ensures.rows c.in_ok-supply.ensures in
    let passed = sym (λ j. next_refused (c.rows-rows.ensures.rows j) (c.caller.ensures j) form port s) ∙ c.in_ok-ensure_changeable.ensures in
    let last = sym (left_at state c.version.result c.version.ensures) ∙ c.in_err-ensure_version_left.ensures in
    let p = err_from_is_err_and c.from_residual-in_err-ensure_version_left.result c.from_residual-in_err-ensure_version_left.ensures.1 in
    rw (p.1, p.2) (change_last settings state caller form c.args.network.now port s is passed c.in_ok-fixed.fixed c.in_ok-fixed.ensures.there c.in_err-ensure_version_left.field-0.0 last)

pub returns-clause-ok : goal.returns-clause-ok
returns-clause-ok c =
    let settings = c.args.asking.now.settings in
    let state = c.args.asking.now.state in
    let caller = c.args.asking.now.caller in
    let form = c.args.form.now in
    let n = c.args.network.now in
    let port = c.args.port.now in
    let s = c.in_ok-supply.supply in
    let is = subst (λ (r : RowLists). IsNextSupply r form port s) c.rows-rows.ensures.rows c.in_ok-supply.ensures in
    let passed = sym (λ j. next_refused (c.rows-rows.ensures.rows j) (c.caller.ensures j) form port s) ∙ c.in_ok-ensure_changeable.ensures in
    let room = sym (left_at state c.version.result c.version.ensures) ∙ c.in_ok-ensure_version_left.ensures in
    let row = c.in_ok-changed_port.ensures ∙ (λ j. changed_port (c.settings.ensures j) form n port c.in_ok-fixed.fixed) in
    change_replaces settings state caller form n port s is passed c.in_ok-fixed.fixed c.in_ok-fixed.ensures.there c.in_ok-changed_port.field-0 room row
