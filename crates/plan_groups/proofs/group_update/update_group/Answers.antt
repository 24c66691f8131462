use Rattle.std.proofs.Common.{◌∙◌}
use Rattle.std.proofs.lemmas.Result.{err_from_is_err_and}
use Rattle.plan_groups.proofs.GroupLemmas.{update_leads, update_refused}
use Rattle.plan_groups.proofs.group_update.update_group.Goals as goal

pub returns-in_err-ensure_changeable-clause-err : goal.returns-in_err-ensure_changeable-clause-err
returns-in_err-ensure_changeable-clause-err c =
    let p = err_from_is_err_and c.from_residual-in_err-ensure_changeable.result c.from_residual-in_err-ensure_changeable.ensures.1 in
    rw (p.1, p.2)
    (update_refused c.args.asking.now.state c.args.asking.now.caller c.args.name.now c.args.form.now c.in_ok-group.group.now c.in_ok-group.ensures.found
    c.in_err-ensure_changeable.field-0.0 c.in_err-ensure_changeable.ensures)

pub returns-clause-ok : goal.returns-clause-ok
returns-clause-ok c = record {
  start = c.in_ok-put.ensures.start ∙ (c.in_ok-begin.ensures.start ∙ c.rows.ensures.rows);
  moved = update_leads c.args.asking.now.state c.args.asking.now.caller c.args.name.now c.args.form.now c.in_ok-group.group.now c.in_ok-group.ensures.found c.in_ok-ensure_changeable.ensures
      c.in_ok-begin.field-0.rows c.in_ok-put.field-0.rows c.in_ok-changed.changed c.in_ok-kept.kept (c.in_ok-begin.ensures.rows ∙ c.rows.ensures.rows) c.in_ok-changed.ensures c.in_ok-kept.ensures c.in_ok-put.ensures.rows;
}
