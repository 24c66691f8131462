use Rattle.std.proofs.Common.{subst, ◌∙◌, flat_map}
use Rattle.std.specs.List.{IsDistinct}
use Rattle.api_consistency.specs.Keys.{legs_of}
use Rattle.api_consistency.specs.Stretches.{clash}
use Rattle.api_consistency.proofs.disjoint.are_reached_apart.Goals as goal

pub returns : goal.returns
returns c = λ h. subst (IsDistinct clash) (c.in_ok-reached.ensures ∙ (λ j. flat_map (legs_of (c.rows.ensures j).subnets) (c.ports.ensures j))) (c.are_apart_by_holder.ensures h)
