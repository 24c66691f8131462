use Rattle.std.proofs.Common.{ap, subst, ◌∙◌, map}
use Rattle.std.specs.List.{IsDistinct}
use Rattle.api_consistency.specs.Keys.{of_name}
use Rattle.api_consistency.specs.Stretches.{meet}
use Rattle.api_consistency.proofs.KeyLemmas.{names_once}
use Rattle.api_consistency.proofs.numbered.are_names_once.Goals as goal

pub returns : goal.returns
returns c = λ h. names_once c.args.known.now.projects (subst (IsDistinct meet) (c.in_ok-names.ensures ∙ ap (map of_name) c.projects.ensures) (c.are_apart.ensures h))
