use Rattle.std.proofs.Common.{◌≡◌, ◌++◌, drop}
use Rattle.std.specs.List.{filter_map}
use Rattle.api_consistency.specs.Keys.{of_default}
use Rattle.api_consistency.proofs.groups.defaults_of.Given as goal

-- those so far before those that are left
abbrev pub invariant-loop-group : goal.invariant-loop-group
invariant-loop-group l = l.defaults.items ++ filter_map of_default (drop l.group-index l.groups) ≡ filter_map of_default l.groups
