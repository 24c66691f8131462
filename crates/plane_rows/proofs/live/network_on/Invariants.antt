use Rattle.std.proofs.Common.{◌≡◌, drop}
use Rattle.std.specs.Prelude.{find}
use Rattle.api_types.specs.declared.network.NetworkRow.{NetworkRow}
use Rattle.api_types.specs.Wires.{wire_of, is_wire, network_on as network_on_wire}
use Rattle.plane_rows.proofs.live.network_on.Given as goal

-- none so far is on the wire
abbrev pub invariant-loop-network : goal.invariant-loop-network
invariant-loop-network l =
    find (λ (n : NetworkRow). is_wire (record { physical = l.physical; tag = l.tag }) (wire_of n.segment)) (drop l.network-index l.network-items)
    ≡ network_on_wire l.rows (record { physical = l.physical; tag = l.tag })
