use Rattle.std.proofs.Common.{ap, subst, ◌∙◌, map}
use Rattle.std.specs.List.{IsDistinct}
use Rattle.api_consistency.specs.Keys.{of_subnet}
use Rattle.api_consistency.specs.Stretches.{clash}
use Rattle.api_consistency.proofs.disjoint.are_subnets_apart.Goals as goal

pub returns : goal.returns
returns c = λ h. subst (IsDistinct clash) (c.in_ok-stretches.ensures ∙ ap (map of_subnet) c.subnets.ensures.rows) (c.are_apart_by_holder.ensures h)
