use Rattle.std.proofs.Common.{◌≡◌, drop}
use Rattle.api_types.specs.Sharing.{is_granted}
use Rattle.api_policy.specs.Standing.{without}
use Rattle.api_policy.proofs.standing.is_granted_without.Given as goal

-- none so far grants it
abbrev pub invariant-loop-policy : goal.invariant-loop-policy
invariant-loop-policy l =
    is_granted (without l.gone (drop l.policy-index l.policies)) l.action l.network l.project ≡ is_granted (without l.gone l.policies) l.action l.network l.project
