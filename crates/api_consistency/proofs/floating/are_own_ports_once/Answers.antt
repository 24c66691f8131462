use Rattle.std.proofs.Common.{ap, subst, ◌∙◌, map}
use Rattle.std.specs.List.{IsDistinct}
use Rattle.api_consistency.specs.Keys.{of_own_port}
use Rattle.api_consistency.specs.Stretches.{meet}
use Rattle.api_consistency.proofs.KeyLemmas.{own_ports_once}
use Rattle.api_consistency.proofs.floating.are_own_ports_once.Goals as goal

pub returns : goal.returns
returns c = λ h. own_ports_once c.args.known.now.floatings (subst (IsDistinct meet) (c.in_ok-ports.ensures ∙ ap (map of_own_port) c.floatings.ensures) (c.are_apart.ensures h))
