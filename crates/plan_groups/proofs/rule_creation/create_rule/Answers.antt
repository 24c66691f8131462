use Rattle.std.proofs.Common.{◌∙◌}
use Rattle.std.proofs.lemmas.Result.{err_from_is_err_and}
use Rattle.call_parts.specs.Answers.{drawing_of}
use Rattle.plan_groups.proofs.RuleLemmas.{part_refused, rule_leads, rule_spent}
use Rattle.plan_groups.proofs.rule_creation.create_rule.Goals as goal

pub returns-in_err-parts-clause-err : goal.returns-in_err-parts-clause-err
returns-in_err-parts-clause-err c =
    let asking = c.args.asking.now in
    let p = err_from_is_err_and c.from_residual.result c.from_residual.ensures.1 in
    rw (p.1, p.2) (part_refused asking.settings asking.state asking.caller c.args.form.now c.in_err-parts.field-0.0 c.in_err-parts.ensures.err)

pub draw_new-requires-clause-named : goal.draw_new-requires-clause-named
draw_new-requires-clause-named c = c.in_ok-group.ensures.named

pub returns-in_err-drawn-clause-err : goal.returns-in_err-drawn-clause-err
returns-in_err-drawn-clause-err c =
    let asking = c.args.asking.now in
    let p = err_from_is_err_and c.from_residual-in_err-drawn.result c.from_residual-in_err-drawn.ensures.1 in
    rw (p.1, p.2) (rule_spent asking.settings asking.state asking.caller c.args.form.now c.in_ok-group.group.now c.in_ok-group.ensures.ok c.in_err-drawn.field-0.0 c.in_err-drawn.ensures.spent)

pub returns-clause-ok : goal.returns-clause-ok
returns-clause-ok c =
    let asking = c.args.asking.now in
    let planned = c.in_ok-add_rule.field-0 in
    record {
      start = c.in_ok-add_rule.ensures.start ∙ c.in_ok-drawn.ensures.start;
      moved = rule_leads asking.settings asking.state asking.caller c.args.form.now c.in_ok-group.group.now c.in_ok-group.ensures.ok (drawing_of c.in_ok-drawn.drawn) planned.row planned.draft.rows
          c.in_ok-drawn.ensures.drawn c.in_ok-add_rule.ensures.row c.in_ok-add_rule.ensures.rows;
    }
