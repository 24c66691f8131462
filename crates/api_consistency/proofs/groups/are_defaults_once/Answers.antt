use Rattle.std.proofs.Common.{ap, subst, ◌∙◌}
use Rattle.std.specs.List.{IsDistinct, filter_map}
use Rattle.api_consistency.specs.Keys.{of_default}
use Rattle.api_consistency.specs.Stretches.{meet}
use Rattle.api_consistency.proofs.KeyLemmas.{defaults_once}
use Rattle.api_consistency.proofs.groups.are_defaults_once.Goals as goal

pub returns : goal.returns
returns c = λ h. defaults_once c.args.known.now.groups (subst (IsDistinct meet) (c.in_ok-defaults.ensures ∙ ap (filter_map of_default) c.groups.ensures) (c.are_apart.ensures h))
