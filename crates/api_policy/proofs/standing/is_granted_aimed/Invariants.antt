use Rattle.std.proofs.Common.{◌≡◌, drop}
use Rattle.api_types.specs.Sharing.{is_granted}
use Rattle.api_policy.specs.Standing.{with_aimed}
use Rattle.api_policy.proofs.standing.is_granted_aimed.Given as goal

-- none so far grants it
abbrev pub invariant-loop-policy : goal.invariant-loop-policy
invariant-loop-policy l =
    is_granted (with_aimed l.changed l.target (drop l.policy-index l.policies)) l.action l.network l.project ≡ is_granted (with_aimed l.changed l.target l.policies) l.action l.network l.project
