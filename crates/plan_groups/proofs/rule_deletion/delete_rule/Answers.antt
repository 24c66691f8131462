use Rattle.std.proofs.Common.{◌∙◌}
use Rattle.std.proofs.lemmas.Result.{err_from_is_err_and}
use Rattle.plan_groups.proofs.RuleLemmas.{deletion_leads, deletion_refused}
use Rattle.plan_groups.proofs.rule_deletion.delete_rule.Goals as goal

pub returns-in_err-ensure_deletable-clause-err : goal.returns-in_err-ensure_deletable-clause-err
returns-in_err-ensure_deletable-clause-err c =
    let p = err_from_is_err_and c.from_residual-in_err-ensure_deletable.result c.from_residual-in_err-ensure_deletable.ensures.1 in
    rw (p.1, p.2)
    (deletion_refused c.args.asking.now.state c.args.asking.now.caller c.args.name.now c.in_ok-rule.rule.now c.in_ok-rule.ensures.found c.in_err-ensure_deletable.field-0.0 c.in_err-ensure_deletable.ensures)

pub returns-clause-ok : goal.returns-clause-ok
returns-clause-ok c = record {
  start = c.in_ok-drop_row.ensures.start ∙ (c.in_ok-draft.ensures.start ∙ c.rows.ensures.rows);
  moved = deletion_leads c.args.asking.now.state c.args.asking.now.caller c.args.name.now c.in_ok-rule.rule.now c.in_ok-rule.ensures.found c.in_ok-ensure_deletable.ensures
      c.in_ok-draft.draft.rows c.in_ok-drop_row.field-0.rows (c.in_ok-draft.ensures.rows ∙ c.rows.ensures.rows) c.in_ok-drop_row.ensures.rows;
}
