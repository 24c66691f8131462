use Rattle.std.proofs.Common.{ap, subst, ◌∙◌, map}
use Rattle.std.specs.List.{IsDistinct}
use Rattle.api_consistency.specs.Keys.{of_policy}
use Rattle.api_consistency.specs.Stretches.{meet}
use Rattle.api_consistency.proofs.KeyLemmas.{policies_once}
use Rattle.api_consistency.proofs.permitted.are_policies_once.Goals as goal

pub returns : goal.returns
returns c = λ h. policies_once c.args.known.now.policies (subst (IsDistinct meet) (c.in_ok-stretches.ensures ∙ ap (map of_policy) c.policies.ensures) (c.are_apart.ensures h))
