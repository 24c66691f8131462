use Rattle.std.proofs.Common.{ap, subst, ◌∙◌, map}
use Rattle.std.specs.List.{IsDistinct}
use Rattle.api_consistency.specs.Keys.{of_rule}
use Rattle.api_consistency.specs.Stretches.{meet}
use Rattle.api_consistency.proofs.RuleLemmas.{rules_apart}
use Rattle.api_consistency.proofs.groups.are_rules_apart.Goals as goal

pub returns : goal.returns
returns c = λ h. rules_apart c.args.known.now.rules (subst (IsDistinct meet) (c.in_ok-stretches.ensures ∙ ap (map of_rule) c.rules.ensures) (c.are_apart.ensures h))
