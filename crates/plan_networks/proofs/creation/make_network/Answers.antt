use Rattle.std.proofs.Common.{◌≡◌, ◌∙◌, ◌+◌, Some, None, subst}
use Rattle.std.specs.Prelude.{◌⊎◌}
use Rattle.std.proofs.lemmas.Result.{err_from_is_err_and}
use Rattle.api_types.specs.declared.refusal.Refusal.TheVariants.{CountersSpent, OutOfMemory}
use Rattle.call_parts.specs.State.{drawing_at}
use Rattle.call_parts.specs.Answers.{drawing_of}
use Rattle.plan_networks.proofs.CallLemmas.{counters_spent, created, segment_refused}
use Rattle.plan_networks.proofs.creation.make_network.Goals as goal

pub returns-in_err-segment-clause-err : goal.returns-in_err-segment-clause-err
returns-in_err-segment-clause-err c =
    let asking = c.args.asking.now in
    let p = err_from_is_err_and c.from_residual.result c.from_residual.ensures.1 in
    rw (p.1, p.2) (segment_refused asking.settings asking.state asking.caller c.args.form.now c.args.owner.now c.in_err-segment.field-0.0 c.in_err-segment.ensures.refused)

pub returns-in_err-drawn-clause-err : goal.returns-in_err-drawn-clause-err
returns-in_err-drawn-clause-err c =
    let asking = c.args.asking.now in
    let owner = c.args.owner.now in
    let e = c.in_err-drawn.field-0.0 in
    let p = err_from_is_err_and c.from_residual-in_err-drawn.result c.from_residual-in_err-drawn.ensures.1 in
    let spent = subst (λ many. (e ≡ OutOfMemory) ⊎ ((e ≡ CountersSpent) × (drawing_at asking.state owner (1 + many) ≡ None))) c.openings_count.ensures.count c.in_err-drawn.ensures.spent in
    rw (p.1, p.2) (counters_spent asking.settings asking.state asking.caller c.args.form.now owner c.in_ok-segment.segment c.in_ok-segment.ensures.passes c.in_ok-segment.ensures.chosen e spent)

pub returns-clause-ok : goal.returns-clause-ok
returns-clause-ok c =
    let asking = c.args.asking.now in
    let owner = c.args.owner.now in
    let drew = subst (λ many. drawing_at asking.state owner (1 + many) ≡ Some (drawing_of c.in_ok-drawn.drawn)) c.openings_count.ensures.count c.in_ok-drawn.ensures.drawn in
    created asking.settings asking.state asking.caller c.args.form.now owner c.in_ok-segment.segment c.in_ok-segment.ensures.passes c.in_ok-segment.ensures.chosen (drawing_of c.in_ok-drawn.drawn) c.in_ok-add_network.field-0.draft _ drew
    (c.in_ok-add_network.ensures.start ∙ c.in_ok-drawn.ensures.start) c.in_ok-add_network.ensures.row c.in_ok-add_network.ensures.rows
