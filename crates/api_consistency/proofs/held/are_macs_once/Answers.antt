use Rattle.std.proofs.Common.{ap, subst, ◌∙◌, map}
use Rattle.std.specs.List.{IsDistinct}
use Rattle.api_consistency.specs.Keys.{of_mac}
use Rattle.api_consistency.specs.Stretches.{meet}
use Rattle.api_consistency.proofs.KeyLemmas.{macs_once}
use Rattle.api_consistency.proofs.held.are_macs_once.Goals as goal

pub returns : goal.returns
returns c = λ h. macs_once c.args.known.now.ports (subst (IsDistinct meet) (c.in_ok-macs.ensures ∙ ap (map of_mac) c.ports.ensures) (c.are_apart.ensures h))
