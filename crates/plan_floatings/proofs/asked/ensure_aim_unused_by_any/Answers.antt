use Rattle.std.proofs.Common.{List, subst}
use Rattle.std.specs.Prelude.{option_and_then}
use Rattle.api_policy.specs.Checks.{IsAnswerOf}
use Rattle.api_policy.specs.Uses.{aim_in_use}
use Rattle.api_types.specs.declared.floating.FloatingRow.{FloatingRow}
use Rattle.plan_floatings.specs.FloatingCalls.{aim_asked}
use Rattle.plan_floatings.proofs.CallLemmas.{all_others}
use Rattle.plan_floatings.proofs.asked.ensure_aim_unused_by_any.Goals as goal

pub returns : goal.returns
returns c =
    let rows = c.args.rows.now in
    let caller = c.args.caller.now in
    subst (λ (fs : List FloatingRow). IsAnswerOf (option_and_then (aim_in_use rows caller fs c.args.network) (aim_asked rows caller c.args.form.now)) c.ensure_aim_unused.result) (all_others rows.floatings) c.ensure_aim_unused.ensures
