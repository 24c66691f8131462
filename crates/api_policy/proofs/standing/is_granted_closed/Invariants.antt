use Rattle.std.proofs.Common.{◌≡◌, drop}
use Rattle.api_types.specs.Sharing.{is_granted}
use Rattle.api_policy.specs.Standing.{without_closed}
use Rattle.api_policy.proofs.standing.is_granted_closed.Given as goal

-- none so far grants it
abbrev pub invariant-loop-policy : goal.invariant-loop-policy
invariant-loop-policy l =
    is_granted (without_closed l.closed l.shared l.external (drop l.policy-index l.policies)) l.action l.network l.project ≡ is_granted (without_closed l.closed l.shared l.external l.policies) l.action l.network l.project
