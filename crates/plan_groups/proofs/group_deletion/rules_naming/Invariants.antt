use Rattle.std.proofs.Common.{◌≡◌, ◌++◌, drop, map}
use Rattle.std.specs.Prelude.{filter}
use Rattle.api_types.specs.declared.group.RuleRow.{RuleRow}
use Rattle.row_laws.specs.Gone.{names_group}
use Rattle.plan_groups.proofs.group_deletion.rules_naming.Given as goal

abbrev pub invariant-loop-rule : goal.invariant-loop-rule
invariant-loop-rule l =
    l.ids ++ map (λ (r : RuleRow). r.id) (filter (names_group l.group) (drop l.rule-index l.rules)) ≡ map (λ (r : RuleRow). r.id) (filter (names_group l.group) l.rules)
