use Rattle.std.proofs.Common.{◌∙◌, List, ap}
use Rattle.api_ipam.specs.FixedChoice.{is_in}
use Rattle.api_types.specs.HeldAddresses.{address_taken, is_address_held}
use Rattle.api_types.specs.declared.port.PortRow.{PortRow}
use Rattle.plan_routers.specs.RouterCalls.{outer_taken}
use Rattle.plan_routers.proofs.RefusalLemmas.{passes_if}
use Rattle.plan_routers.proofs.outer.ensure_outer_free.Goals as goal

pub returns : goal.returns
returns c =
    let rows = c.args.rows.now in
    let n = c.args.network.now in
    let known = c.as_slice.ensures ∙ c.in_ok-known.ensures in
    let ports = c.rows.ensures.rows ∙ c.ports.ensures in
    passes_if (address_taken (is_in c.in_ok-held.held) n.id c.as_slice.result.now) (outer_taken rows n) c.ensure_addresses_free.result
    (λ j. address_taken (λ x. (c.in_ok-held.ensures x ∙ ap (λ (ps : List PortRow). is_address_held ps n.id x) ports) j) n.id (known j)) c.ensure_addresses_free.ensures
