use Rattle.std.proofs.Common.{ap, subst, ◌∙◌}
use Rattle.std.specs.List.{IsDistinct}
use Rattle.api_consistency.specs.Keys.{of_ids}
use Rattle.api_consistency.specs.Stretches.{meet}
use Rattle.api_consistency.proofs.KeyLemmas.{ids_once}
use Rattle.api_consistency.proofs.numbered.are_ids_once.Goals as goal

pub returns : goal.returns
returns c = λ h. ids_once c.args.known.now (subst (IsDistinct meet) (c.in_ok-ids.ensures ∙ ap of_ids c.rows.ensures) (c.are_apart.ensures h))
