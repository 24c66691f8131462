use Rattle.std.proofs.Common.{ap, subst, ◌∙◌, map, flat_map}
use Rattle.std.specs.List.{IsDistinct}
use Rattle.api_consistency.specs.Keys.{of_fixed}
use Rattle.api_types.specs.declared.port.PortRow.{PortRow}
use Rattle.api_consistency.specs.Stretches.{meet}
use Rattle.api_consistency.proofs.KeyLemmas.{addresses_once}
use Rattle.api_consistency.proofs.held.are_addresses_once.Goals as goal

pub returns : goal.returns
returns c = λ h. addresses_once c.args.known.now.ports (subst (IsDistinct meet) (c.in_ok-addresses.ensures ∙ ap (flat_map (λ (p : PortRow). map (of_fixed p.network) p.fixed)) c.ports.ensures) (c.are_apart.ensures h))
