use Rattle.std.proofs.Common.{subst}
use Rattle.api_policy.specs.Checks.{IsAnswerOf}
use Rattle.api_policy.specs.Standing.{with_aimed}
use Rattle.api_policy.specs.Uses.{policy_in_use}
use Rattle.plan_policies.proofs.update.ensure_unneeded.Goals as goal

pub returns : goal.returns
returns c =
    let rows = c.args.rows.now in
    let policy = c.args.policy.now in
    subst (λ target. IsAnswerOf (policy_in_use rows c.args.caller.now (with_aimed policy target rows.policies) policy) c.policy_in_use.result) c.target_after-target.ensures c.policy_in_use.ensures
