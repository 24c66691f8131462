use Rattle.std.proofs.Common.{◌≡◌, ◌++◌, length}
use Rattle.api_secgroup.specs.Repeats.{without_repeats}
use Rattle.api_secgroup.proofs.listed.without_repeats.Given as goal

-- those taken so far are kept apart
abbrev pub invariant-loop-prefix : goal.invariant-loop-prefix
invariant-loop-prefix l = l.kept.items ++ without_repeats l.rest ≡ without_repeats l.sorted

abbrev pub decreases-loop-prefix : goal.decreases-loop-prefix
decreases-loop-prefix l = length l.rest
