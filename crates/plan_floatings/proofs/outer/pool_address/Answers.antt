use Rattle.std.proofs.Common.{◌≡◌, ◌∙◌, List, Option, ap, not, subst}
use Rattle.std.specs.Prelude.{IfOk}
use Rattle.api_ipam.specs.FixedChoice.{floating_address}
use Rattle.api_types.specs.HeldAddresses.{is_address_held, subnets_on}
use Rattle.api_types.specs.declared.port.Fixed.{Fixed}
use Rattle.api_types.specs.declared.port.PortRow.{PortRow}
use Rattle.api_types.specs.declared.subnet.SubnetRow.{SubnetRow}
use Rattle.plan_floatings.proofs.outer.pool_address.Goals as goal

pub returns : goal.returns
returns c =
    let network = c.args.network in
    let subnets = c.as_slice.ensures ∙ c.in_ok-subnets.ensures ∙ ap (λ (ss : List SubnetRow). subnets_on ss network) (c.rows-2.ensures.rows ∙ c.subnets.ensures) in
    subst (λ (e : Option Fixed). IfOk c.floating_address.result (λ o. o ≡ e))
    (λ j. floating_address (λ x. not ((c.in_ok-held.ensures x ∙ ap (λ (ps : List PortRow). is_address_held ps network x) (c.rows.ensures.rows ∙ c.ports.ensures)) j)) (subnets j))
    c.floating_address.ensures
