use Rattle.std.proofs.Common.{◌≡◌, ◌++◌, drop, map}
use Rattle.api_types.specs.HeldAddresses.{ports_on}
use Rattle.api_types.specs.declared.port.PortRow.{PortRow}
use Rattle.plan_networks.proofs.deletion.ports_on.Given as goal

abbrev pub invariant-loop-port : goal.invariant-loop-port
invariant-loop-port l =
    l.ids ++ map (λ (p : PortRow). p.id) (ports_on (drop l.port-index l.ports) l.network) ≡ map (λ (p : PortRow). p.id) (ports_on l.ports l.network)
