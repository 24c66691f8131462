use Rattle.std.proofs.Common.{◌∙◌, ◌∷◌, ℕ, ap, inr, sym}
use Rattle.std.proofs.lemmas.Result.{err_from_is_err_and}
use Rattle.api_types.specs.Refusing.{when}
use Rattle.api_types.specs.RowLists.{RowLists}
use Rattle.api_types.specs.declared.kind.Row.TheVariants.{Router}
use Rattle.api_types.specs.declared.refusal.Refusal.TheVariants.{CountersSpent}
use Rattle.call_parts.specs.Edits.{Put, made}
use Rattle.call_parts.specs.State.{is_last}
use Rattle.plan_routers.specs.RouterCalls.{gateway_gone, lost_gateway}
use Rattle.plan_routers.proofs.UpdateLemmas.{kept_moved, kept_refused}
use Rattle.plan_routers.proofs.update.move_bare.Goals as goal

pub returns-in_err-ensure_version_left-clause-err : goal.returns-in_err-ensure_version_left-clause-err
returns-in_err-ensure_version_left-clause-err c =
    let asking = c.args.asking.now in
    let last_is = ap (λ (v : ℕ). when (is_last (record { rows = asking.state.rows; version = v })) CountersSpent) c.version.ensures in
    let p = err_from_is_err_and c.from_residual.result c.from_residual.ensures.1 in
    rw (p.1, p.2)
    (inr (kept_refused asking.settings asking.state asking.caller c.args.form.now c.args.old.now c.args.new c.in_err-ensure_version_left.field-0.0 (sym last_is ∙ c.in_err-ensure_version_left.ensures)))

pub returns-clause-ok : goal.returns-clause-ok
returns-clause-ok c =
    let asking = c.args.asking.now in
    let last_is = ap (λ (v : ℕ). when (is_last (record { rows = asking.state.rows; version = v })) CountersSpent) c.version.ensures in
    let planned = c.in_ok-put_alone.field-0 in
    let rows = c.in_ok-put_alone.ensures.rows ∙ ap (λ (r : RowLists). made r (Put (Router c.args.new) ∷ gateway_gone (lost_gateway c.args.old.now.gateway c.args.new.gateway))) c.rows.ensures.rows in
    kept_moved asking.settings asking.state asking.caller c.args.form.now c.args.old.now c.args.new planned.draft planned.row (sym last_is ∙ c.in_ok-ensure_version_left.ensures)
    (c.in_ok-put_alone.ensures.start ∙ c.rows.ensures.rows) c.in_ok-put_alone.ensures.row rows
