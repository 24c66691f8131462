use Rattle.std.proofs.Common.{◌≡◌, ◌∙◌, ◌+◌, Some, None, subst}
use Rattle.std.specs.Prelude.{◌⊎◌}
use Rattle.std.proofs.lemmas.Result.{err_from_is_err_and}
use Rattle.api_types.specs.declared.policy.Action.TheVariants.{External, Shared}
use Rattle.api_types.specs.declared.refusal.Refusal.TheVariants.{CountersSpent, OutOfMemory}
use Rattle.call_parts.specs.Answers.{drawing_of}
use Rattle.call_parts.specs.Edits.{made}
use Rattle.call_parts.specs.State.{drawing_at}
use Rattle.plan_networks.specs.NetworkCalls.{network_edits, opens}
use Rattle.plan_networks.proofs.UpdateLemmas.{project_named, updated, updated_refused, updated_spent}
use Rattle.plan_networks.proofs.update.update_network.Goals as goal

pub returns-in_err-ensure_changeable-clause-err : goal.returns-in_err-ensure_changeable-clause-err
returns-in_err-ensure_changeable-clause-err c =
    let asking = c.args.asking.now in
    let p = err_from_is_err_and c.from_residual-in_err-ensure_changeable.result c.from_residual-in_err-ensure_changeable.ensures.1 in
    rw (p.1, p.2) (updated_refused asking.state asking.caller c.args.name.now c.args.form.now c.in_ok-network.network.now c.in_ok-network.ensures.found c.in_err-ensure_changeable.field-0.0
    c.in_err-ensure_changeable.ensures)

pub draw_new-requires-clause-named : goal.draw_new-requires-clause-named
draw_new-requires-clause-named c =
    let asking = c.args.asking.now in
    project_named asking.state.rows asking.caller c.args.name.now.id c.in_ok-network.network.now c.rows-rows.ensures.consistent c.in_ok-network.ensures.found

pub returns-in_err-drawn-clause-err : goal.returns-in_err-drawn-clause-err
returns-in_err-drawn-clause-err c =
    let asking = c.args.asking.now in
    let form = c.args.form.now in
    let n = c.in_ok-network.network.now in
    let e = c.in_err-drawn.field-0.0 in
    let p = err_from_is_err_and c.from_residual-in_err-drawn.result c.from_residual-in_err-drawn.ensures.1 in
    let shared = c.opens.ensures.count ∙ (λ j. opens (c.rows-rows.ensures.rows j) n Shared form.shared) in
    let external = c.opens-2.ensures.count ∙ (λ j. opens (c.rows-rows.ensures.rows j) n External form.router_external) in
    let spent = subst (λ many. (e ≡ OutOfMemory) ⊎ ((e ≡ CountersSpent) × (drawing_at asking.state n.project many ≡ None))) (λ j. shared j + external j) c.in_err-drawn.ensures.spent in
    rw (p.1, p.2) (updated_spent asking.state asking.caller c.args.name.now form n c.in_ok-network.ensures.found e c.in_ok-ensure_changeable.ensures spent)

pub returns-clause-ok : goal.returns-clause-ok
returns-clause-ok c =
    let asking = c.args.asking.now in
    let form = c.args.form.now in
    let n = c.in_ok-network.network.now in
    let drawing = drawing_of c.in_ok-drawn.drawn in
    let planned = c.in_ok-change_network.field-0 in
    let shared = c.opens.ensures.count ∙ (λ j. opens (c.rows-rows.ensures.rows j) n Shared form.shared) in
    let external = c.opens-2.ensures.count ∙ (λ j. opens (c.rows-rows.ensures.rows j) n External form.router_external) in
    let drew = subst (λ many. drawing_at asking.state n.project many ≡ Some drawing) (λ j. shared j + external j) c.in_ok-drawn.ensures.drawn in
    let leads = c.in_ok-change_network.ensures.rows ∙ (λ j. made drawing.rows (network_edits (c.rows-rows.ensures.rows j) form n drawing)) in
    updated asking.state asking.caller c.args.name.now form n c.in_ok-network.ensures.found drawing planned.row planned.draft c.in_ok-ensure_changeable.ensures drew
    (c.in_ok-change_network.ensures.start ∙ c.in_ok-drawn.ensures.start) c.in_ok-change_network.ensures.row leads
