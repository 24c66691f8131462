use Rattle.std.proofs.Common.{◌≡◌, ◌∙◌, List, Option, ap, not, subst}
use Rattle.std.specs.Prelude.{IfOk}
use Rattle.api_ipam.specs.FixedChoice.{gateway_addresses}
use Rattle.api_types.specs.HeldAddresses.{is_address_held}
use Rattle.api_types.specs.declared.port.Fixed.{Fixed}
use Rattle.api_types.specs.declared.port.PortRow.{PortRow}
use Rattle.plan_routers.proofs.outer.outer_addresses.Goals as goal

pub returns : goal.returns
returns c =
    let n = c.args.network.now in
    let ports = c.rows.ensures.rows ∙ c.ports.ensures in
    let subnets = c.as_slice.ensures ∙ c.in_ok-subnets.ensures.found in
    subst (λ (o : Option (List Fixed)). IfOk c.gateway_addresses.result (λ fixed. fixed ≡ o))
    (λ j. gateway_addresses (λ x. not ((c.in_ok-held.ensures x ∙ ap (λ (ps : List PortRow). is_address_held ps n.id x) ports) j)) (subnets j) (c.outer_mac.ensures j))
    c.gateway_addresses.ensures
