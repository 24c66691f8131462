use Rattle.std.proofs.Common.{◌≡◌, ◌∙◌, ◌+◌, ◌-◌, ◌<◌, length, drop, find, get_or, slice_get, ap, sym, arith}
use Rattle.std.specs.Option.{option_and_then}
use Rattle.api_types.specs.Holders.{is_live_dhcp_of}
use Rattle.api_types.specs.declared.port.PortRow.{PortRow}
use Rattle.dhcp_agent.proofs.ServingLemmas.{from_here}
use Rattle.dhcp_agent.proofs.served.indices_of.Goals as goal

pub loop-left-preserved-in_ok-insert : goal.loop-left-preserved-in_ok-insert
loop-left-preserved-in_ok-insert c =
    let rows = c.args.rows.now in
    let ports = c.args.ports.now in
    let left = c.loop-left.left in
    let behind : left ≡ (left - 1) + 1 = omega arith in
    let within : left - 1 < length ports = omega (arith, c.loop-left.invariant.within) in
    let row = c.get-port.result.now in
    let is : row ≡ get_or ports (left - 1) row = c.get-port.ensures ∙ c.index-ports-left.is ∙ ap (λ (p : PortRow). get_or ports (left - 1) p) (sym c.get-port.ensures) in
    record {
      within = omega (arith, c.loop-left.invariant.within);
      found = λ n. ap (option_and_then (slice_get ports)) (c.in_ok-insert.ensures.updates.0 n)
          ∙ from_here rows ports (left - 1) row n _ within is (sym c.is_serving.ensures ∙ c.if-is_serving.true) (c.loop-left.invariant.found n ∙ ap (λ m. find (is_live_dhcp_of rows n) (drop m ports)) behind);
    }
