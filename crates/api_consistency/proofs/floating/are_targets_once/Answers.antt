use Rattle.std.proofs.Common.{ap, subst, ◌∙◌}
use Rattle.std.specs.List.{IsDistinct, filter_map}
use Rattle.api_consistency.specs.Keys.{of_target}
use Rattle.api_consistency.specs.Stretches.{meet}
use Rattle.api_consistency.proofs.KeyLemmas.{targets_once}
use Rattle.api_consistency.proofs.floating.are_targets_once.Goals as goal

pub returns : goal.returns
returns c = λ h. targets_once c.args.known.now.floatings (subst (IsDistinct meet) (c.in_ok-targets.ensures ∙ ap (filter_map of_target) c.floatings.ensures) (c.are_apart.ensures h))
