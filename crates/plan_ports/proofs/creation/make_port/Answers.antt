use Rattle.std.proofs.Common.{◌∙◌}
use Rattle.std.proofs.lemmas.Result.{err_from_is_err_and}
use Rattle.call_parts.specs.Answers.{drawing_of}
use Rattle.plan_ports.proofs.CallLemmas.{drawn_unused, made_moved, made_spent}
use Rattle.plan_ports.proofs.creation.make_port.Goals as goal

pub add_port-requires-clause-new : goal.add_port-requires-clause-new
add_port-requires-clause-new c =
    drawn_unused c.args.asking.now.state c.args.owner.now (drawing_of c.in_ok-drawn.drawn) c.in_ok-drawn.ensures.consistent c.requires c.in_ok-drawn.ensures.drawn

pub returns-in_err-drawn-clause-err : goal.returns-in_err-drawn-clause-err
returns-in_err-drawn-clause-err c =
    let chosen = c.in_ok-chosen.chosen in
    let p = err_from_is_err_and c.from_residual-in_err-drawn.result c.from_residual-in_err-drawn.ensures.1 in
    rw (p.1, p.2)
    (made_spent c.args.asking.now.settings c.args.asking.now.state c.args.asking.now.caller c.args.form.now c.args.network.now c.args.owner.now chosen.mac chosen.fixed c.in_ok-chosen.ensures.ok
    c.in_err-drawn.field-0.0 c.in_err-drawn.ensures.spent)

pub returns-clause-ok : goal.returns-clause-ok
returns-clause-ok c =
    let chosen = c.in_ok-chosen.chosen in
    let planned = c.in_ok-add_port.field-0 in
    record {
      start = c.in_ok-add_port.ensures.start ∙ c.in_ok-drawn.ensures.start;
      moved = made_moved c.args.asking.now.settings c.args.asking.now.state c.args.asking.now.caller c.args.form.now c.args.network.now c.args.owner.now chosen.mac chosen.fixed c.in_ok-chosen.ensures.ok
          (drawing_of c.in_ok-drawn.drawn) planned.row planned.draft.rows c.in_ok-drawn.ensures.drawn c.in_ok-add_port.ensures.row c.in_ok-add_port.ensures.rows;
    }
