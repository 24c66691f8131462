use Rattle.std.proofs.Common.{◌∙◌}
use Rattle.std.proofs.lemmas.Result.{err_from_is_err_and}
use Rattle.call_parts.specs.Answers.{drawing_of}
use Rattle.plan_groups.proofs.GroupLemmas.{group_leads, group_refused, group_spent}
use Rattle.plan_groups.proofs.group_creation.make_group.Goals as goal

pub returns-in_err-ensure_creatable-clause-err : goal.returns-in_err-ensure_creatable-clause-err
returns-in_err-ensure_creatable-clause-err c =
    let asking = c.args.asking.now in
    let p = err_from_is_err_and c.from_residual.result c.from_residual.ensures.1 in
    rw (p.1, p.2) (group_refused asking.settings asking.state asking.caller c.args.form.now c.args.owner.now c.in_err-ensure_creatable.field-0.0 c.in_err-ensure_creatable.ensures)

pub returns-in_err-drawn-clause-err : goal.returns-in_err-drawn-clause-err
returns-in_err-drawn-clause-err c =
    let asking = c.args.asking.now in
    let p = err_from_is_err_and c.from_residual-in_err-drawn.result c.from_residual-in_err-drawn.ensures.1 in
    rw (p.1, p.2) (group_spent asking.settings asking.state asking.caller c.args.form.now c.args.owner.now c.in_ok-ensure_creatable.ensures c.in_err-drawn.field-0.0 c.in_err-drawn.ensures.spent)

pub returns-clause-ok : goal.returns-clause-ok
returns-clause-ok c =
    let asking = c.args.asking.now in
    let planned = c.in_ok-add_group.field-0 in
    record {
      start = c.in_ok-add_group.ensures.start ∙ c.in_ok-drawn.ensures.start;
      moved = group_leads asking.settings asking.state asking.caller c.args.form.now c.args.owner.now c.in_ok-ensure_creatable.ensures (drawing_of c.in_ok-drawn.drawn) planned.row planned.draft.rows
          c.in_ok-drawn.ensures.drawn c.in_ok-add_group.ensures.row c.in_ok-add_group.ensures.rows;
    }
