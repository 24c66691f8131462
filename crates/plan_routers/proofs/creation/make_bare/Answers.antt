use Rattle.std.proofs.Common.{◌∙◌, arith}
use Rattle.std.proofs.lemmas.Result.{err_from_is_err_and}
use Rattle.call_parts.specs.Answers.{drawing_of}
use Rattle.plan_routers.proofs.CreationLemmas.{bare_moved, bare_spent}
use Rattle.plan_routers.proofs.creation.make_bare.Goals as goal

pub add_bare-requires-clause-new : goal.add_bare-requires-clause-new
add_bare-requires-clause-new c = (c.in_ok-drawn.ensures.new 0 (omega arith)).routers

pub returns-in_err-drawn-clause-err : goal.returns-in_err-drawn-clause-err
returns-in_err-drawn-clause-err c =
    let asking = c.args.asking.now in
    let p = err_from_is_err_and c.from_residual.result c.from_residual.ensures.1 in
    rw (p.1, p.2) (bare_spent asking.settings asking.state asking.caller c.args.form.now c.args.owner.now c.in_err-drawn.field-0.0 c.in_err-drawn.ensures.spent)

pub returns-clause-ok : goal.returns-clause-ok
returns-clause-ok c =
    let asking = c.args.asking.now in
    let planned = c.in_ok-add_bare.field-0 in
    bare_moved asking.settings asking.state asking.caller c.args.form.now c.args.owner.now (drawing_of c.in_ok-drawn.drawn) planned.draft planned.row
    c.in_ok-drawn.ensures.drawn (c.in_ok-add_bare.ensures.start ∙ c.in_ok-drawn.ensures.start) c.in_ok-add_bare.ensures.row c.in_ok-add_bare.ensures.rows
