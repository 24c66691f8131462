use Rattle.std.proofs.Common.{◌≡◌, ◌∙◌, ◌<◌, ◌^◌, IfErr, IfOk, subst, sym}
use Rattle.std.specs.Prelude.{not}
use Rattle.api_types.specs.Lists.{is_empty}
use Rattle.api_types.specs.Printed.{reply_of}
use Rattle.call_parts.specs.Answers.{IsRefusalOf}
use Rattle.call_parts.specs.Asking.{AskingParts}
use Rattle.call_parts.specs.InForm.{is_call}
use Rattle.api_machine.specs.Machine.{MachineParts, state_of}
use Rattle.api_machine.specs.Plan.{Answers}
use Rattle.api_machine.specs.WholeStep.{api_step}
use Rattle.api_types.proofs.ListLemmas.{and_both}
use Rattle.api_machine.proofs.PlanLemmas.{if_err, if_ok, planned_so, planned_told, refused_alike, told_alike}
use Rattle.api_machine.proofs.machine.Machine.plan.Goals as goal

pub returns-clause-ok : goal.returns-clause-ok
returns-clause-ok c =
    let n : MachineParts = c.args.self.now in
    let asked = c.make-asking.ensures ∙ (λ j. record { settings = c.settings.ensures.value j; state = state_of (c.self.view_is j); caller = c.args.caller.now }) in
    let answered = subst (λ (a : AskingParts). IfOk c.plan_call.result (Answers a.state (api_step a.settings a.state a.caller c.args.call.now))) asked c.plan_call.ensures.ok in
    let within = subst (λ v. v < 2 ^ 64) c.version-version.ensures c.version-version.type_inv in
    if_ok _ _ c.plan_call.result (λ p answers. planned_so n.settings (state_of n) c.args.caller.now c.args.call.now c.settings.ensures.rules c.rows-rows.ensures.consistent
    c.rows-rows.ensures.typed c.requires.in_form within p.change (reply_of p.answer) answers) answered

pub returns-clause-err : goal.returns-clause-err
returns-clause-err c =
    let asked = c.make-asking.ensures ∙ (λ j. record { settings = c.settings.ensures.value j; state = state_of (c.self.view_is j); caller = c.args.caller.now }) in
    subst (λ (a : AskingParts). IfErr c.plan_call.result (IsRefusalOf (api_step a.settings a.state a.caller c.args.call.now))) asked c.plan_call.ensures.err

pub returns-clause-answer_apart : goal.returns-clause-answer_apart
returns-clause-answer_apart c other alike =
    let n : MachineParts = c.args.self.now in
    let same = told_alike n.settings c.args.caller.now (state_of n) other c.args.call.now (and_both (not (is_empty c.args.caller.now.project)) (is_call c.args.call.now) c.requires.in_form.formed).0 c.rows-rows.ensures.consistent alike in
    if_ok _ _ c.plan_call.result (λ p plans. sym same ∙ planned_told n.settings (state_of n) (api_step n.settings (state_of n) c.args.caller.now c.args.call.now) p.change (reply_of p.answer) plans) (returns-clause-ok c)

pub returns-clause-refusal_apart : goal.returns-clause-refusal_apart
returns-clause-refusal_apart c other alike =
    let n : MachineParts = c.args.self.now in
    let same = told_alike n.settings c.args.caller.now (state_of n) other c.args.call.now (and_both (not (is_empty c.args.caller.now.project)) (is_call c.args.call.now) c.requires.in_form.formed).0 c.rows-rows.ensures.consistent alike in
    if_err _ _ c.plan_call.result (λ e refused. refused_alike (api_step n.settings (state_of n) c.args.caller.now c.args.call.now) (api_step n.settings other c.args.caller.now c.args.call.now) e same refused) (returns-clause-err c)
