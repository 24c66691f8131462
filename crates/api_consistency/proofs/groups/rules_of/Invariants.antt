use Rattle.std.proofs.Common.{◌≡◌, map, take}
use Rattle.api_consistency.specs.Keys.{of_rule}
use Rattle.api_consistency.proofs.groups.rules_of.Given as goal

-- those of the rules so far
abbrev pub invariant-loop-rule : goal.invariant-loop-rule
invariant-loop-rule l = l.stretches.items ≡ map of_rule (take l.rule-index l.rules)
