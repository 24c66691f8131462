use Rattle.std.proofs.Common.{◌≡◌, map, take}
use Rattle.api_consistency.specs.Keys.{of_policy}
use Rattle.api_consistency.proofs.permitted.policies_of.Given as goal

-- those of the policies so far
abbrev pub invariant-loop-policy : goal.invariant-loop-policy
invariant-loop-policy l = l.stretches.items ≡ map of_policy (take l.policy-index l.policies)
