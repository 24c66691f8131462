use Rattle.std.proofs.Common.{ap, subst, ◌∙◌}
use Rattle.std.specs.List.{IsDistinct, filter_map}
use Rattle.api_consistency.specs.Keys.{of_dhcp}
use Rattle.api_consistency.specs.Stretches.{meet}
use Rattle.api_consistency.proofs.KeyLemmas.{dhcp_once}
use Rattle.api_consistency.proofs.services.are_dhcp_once.Goals as goal

pub returns : goal.returns
returns c = λ h. dhcp_once c.args.known.now.ports (subst (IsDistinct meet) (c.in_ok-networks.ensures ∙ ap (filter_map of_dhcp) c.ports.ensures) (c.are_apart.ensures h))
