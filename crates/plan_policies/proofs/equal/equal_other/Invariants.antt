use Rattle.std.proofs.Common.{◌≡◌, drop}
use Rattle.api_types.specs.declared.policy.PolicyRow.{PolicyRow}
use Rattle.api_policy.specs.Standing.{aimed}
use Rattle.api_types.specs.WithRows.{gone_from}
use Rattle.plan_policies.specs.PolicyCalls.{equal_policy}
use Rattle.plan_policies.proofs.equal.equal_other.Given as goal

-- none so far says the same
abbrev pub invariant-loop-policy : goal.invariant-loop-policy
invariant-loop-policy l =
    equal_policy (gone_from (λ (q : PolicyRow). q.id) l.old.id (drop l.policy-index l.policies)) (aimed l.old l.target) ≡ equal_policy (gone_from (λ (q : PolicyRow). q.id) l.old.id l.policies) (aimed l.old l.target)
