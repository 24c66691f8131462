use Rattle.std.proofs.Common.{◌≡◌, ◌++◌, drop}
use Rattle.std.specs.List.{filter_map}
use Rattle.api_consistency.specs.Keys.{of_target}
use Rattle.api_consistency.proofs.floating.targets_of.Given as goal

-- those so far before those that are left
abbrev pub invariant-loop-floating : goal.invariant-loop-floating
invariant-loop-floating l = l.targets.items ++ filter_map of_target (drop l.floating-index l.floatings) ≡ filter_map of_target l.floatings
