use Rattle.std.proofs.Common.{◌∙◌, sym}
use Rattle.std.proofs.lemmas.Result.{err_from_is_err_and}
use Rattle.plan_floatings.specs.FloatingCalls.{aim_asked}
use Rattle.plan_floatings.specs.Plans.{target_of, unjoined}
use Rattle.plan_floatings.proofs.CallLemmas.{changed_last, changed_leads, changed_refused, changed_unjoined, left_at}
use Rattle.plan_floatings.proofs.update.change_floating.Goals as goal

pub returns-in_err-ensure_changeable-clause-err : goal.returns-in_err-ensure_changeable-clause-err
returns-in_err-ensure_changeable-clause-err c =
    let p = err_from_is_err_and c.from_residual.result c.from_residual.ensures.1 in
    rw (p.1, p.2) (changed_refused c.args.asking.now.state c.args.asking.now.caller c.args.form.now c.args.floating.now c.in_err-ensure_changeable.field-0.0 c.in_err-ensure_changeable.ensures)

pub returns-in_err-target-clause-err : goal.returns-in_err-target-clause-err
returns-in_err-target-clause-err c =
    let form = c.args.form.now in
    let f = c.args.floating.now in
    let refused = sym (λ j. unjoined (c.rows-rows.ensures.rows j) f.project f.network (aim_asked (c.rows-rows.ensures.rows j) (c.caller-caller.ensures j) form)) ∙ c.in_err-target.ensures.err in
    let p = err_from_is_err_and c.from_residual-in_err-target.result c.from_residual-in_err-target.ensures.1 in
    rw (p.1, p.2) (changed_unjoined c.args.asking.now.state c.args.asking.now.caller form f c.in_ok-ensure_changeable.ensures c.in_err-target.field-0.0 refused)

pub returns-in_err-ensure_version_left-clause-err : goal.returns-in_err-ensure_version_left-clause-err
returns-in_err-ensure_version_left-clause-err c =
    let state = c.args.asking.now.state in
    let form = c.args.form.now in
    let f = c.args.floating.now in
    let joined = sym (λ j. unjoined (c.rows-rows.ensures.rows j) f.project f.network (aim_asked (c.rows-rows.ensures.rows j) (c.caller-caller.ensures j) form)) ∙ c.in_ok-target.ensures.passes in
    let last = sym (left_at state c.version.result c.version.ensures) ∙ c.in_err-ensure_version_left.ensures in
    let p = err_from_is_err_and c.from_residual-in_err-ensure_version_left.result c.from_residual-in_err-ensure_version_left.ensures.1 in
    rw (p.1, p.2) (changed_last state c.args.asking.now.caller form f c.in_ok-ensure_changeable.ensures joined c.in_err-ensure_version_left.field-0.0 last)

pub returns-clause-ok : goal.returns-clause-ok
returns-clause-ok c =
    let state = c.args.asking.now.state in
    let form = c.args.form.now in
    let f = c.args.floating.now in
    let joined = sym (λ j. unjoined (c.rows-rows.ensures.rows j) f.project f.network (aim_asked (c.rows-rows.ensures.rows j) (c.caller-caller.ensures j) form)) ∙ c.in_ok-target.ensures.passes in
    let room = sym (left_at state c.version.result c.version.ensures) ∙ c.in_ok-ensure_version_left.ensures in
    let target = c.in_ok-target.ensures.ok ∙ (λ j. target_of (c.rows-rows.ensures.rows j) f.project f.network (aim_asked (c.rows-rows.ensures.rows j) (c.caller-caller.ensures j) form)) in
    record {
      start = c.in_ok-put.ensures.start ∙ (c.in_ok-begin.ensures.start ∙ c.rows-rows.ensures.rows);
      moved = changed_leads state c.args.asking.now.caller form f c.in_ok-ensure_changeable.ensures joined room c.in_ok-begin.field-0.rows c.in_ok-put.field-0.rows c.in_ok-target.target
          c.in_ok-changed.changed c.in_ok-kept.kept (c.in_ok-begin.ensures.rows ∙ c.rows-rows.ensures.rows) target c.in_ok-changed.ensures c.in_ok-kept.ensures c.in_ok-put.ensures.rows;
    }
