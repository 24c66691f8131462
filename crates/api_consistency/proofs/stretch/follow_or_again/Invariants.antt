use Rattle.std.proofs.Common.{◌≡◌, length}
use Rattle.api_consistency.specs.Stretches.{follow, is_before_or_same}
use Rattle.api_consistency.proofs.stretch.follow_or_again.Given as goal

-- whether those that are left follow one another is whether all do
abbrev pub invariant-loop-a : goal.invariant-loop-a
invariant-loop-a l = follow is_before_or_same l.left ≡ follow is_before_or_same l.sorted

abbrev pub decreases-loop-a : goal.decreases-loop-a
decreases-loop-a l = length l.left
