use Rattle.std.proofs.Common.{◌∙◌, Option, subst, sym}
use Rattle.std.proofs.lemmas.Result.{err_from_is_err_and}
use Rattle.api_types.specs.declared.refusal.Refusal.{Refusal}
use Rattle.call_parts.specs.Answers.{IsRefusalIn}
use Rattle.plan_networks.specs.Plans.{body_refusal}
use Rattle.plan_networks.proofs.RefusalLemmas.{body_first, none_then, rows_then}
use Rattle.plan_networks.proofs.checks.choose_asked.Goals as goal

pub returns-in_err-asked-clause-refused : goal.returns-in_err-asked-clause-refused
returns-in_err-asked-clause-refused c =
    let asking = c.args.asking.now in
    let e = c.in_err-asked.field-0.0 in
    let refused = subst (λ (o : Option Refusal). IsRefusalIn o e) (λ j. body_refusal (c.settings.ensures j) (c.caller.ensures j) c.args.form.now) c.in_err-asked.ensures.refused in
    let p = err_from_is_err_and c.from_residual.result c.from_residual.ensures.1 in
    rw (p.1, p.2) (body_first asking.settings asking.state.rows asking.caller c.args.form.now c.args.owner.now e refused)

pub returns-in_err-ensure_room-clause-refused : goal.returns-in_err-ensure_room-clause-refused
returns-in_err-ensure_room-clause-refused c =
    let asking = c.args.asking.now in
    let passed = sym (λ j. body_refusal (c.settings.ensures j) (c.caller.ensures j) c.args.form.now) ∙ c.in_ok-asked.ensures.passes in
    let p = err_from_is_err_and c.from_residual-in_err-ensure_room.result c.from_residual-in_err-ensure_room.ensures.1 in
    rw (p.1, p.2) (rows_then asking.settings asking.state.rows asking.caller c.args.form.now c.args.owner.now c.in_err-ensure_room.field-0.0 passed c.in_err-ensure_room.ensures)

pub returns-clause-passes : goal.returns-clause-passes
returns-clause-passes c =
    let asking = c.args.asking.now in
    let passed = sym (λ j. body_refusal (c.settings.ensures j) (c.caller.ensures j) c.args.form.now) ∙ c.in_ok-asked.ensures.passes in
    none_then asking.settings asking.state.rows asking.caller c.args.form.now c.args.owner.now passed c.in_ok-ensure_room.ensures
