use Rattle.std.proofs.Common.{◌≡◌, map, take}
use Rattle.api_types.specs.Printed.{tree_of}
use Rattle.api_policy.specs.Groups.{rule_object, rules_of as rules_of_group}
use Rattle.api_shown.proofs.group.rules_of.Given as goal

-- the objects are those of the group's rules so far
abbrev pub invariant-loop-rule : goal.invariant-loop-rule
invariant-loop-rule l = map tree_of l.objects.items ≡ map rule_object (rules_of_group (take l.rule-index l.rule-items) l.group)
