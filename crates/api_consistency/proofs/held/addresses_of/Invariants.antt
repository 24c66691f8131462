use Rattle.std.proofs.Common.{◌≡◌, flat_map, map, take}
use Rattle.api_types.specs.declared.port.PortRow.{PortRow}
use Rattle.api_consistency.specs.Keys.{of_fixed}
use Rattle.api_consistency.proofs.held.addresses_of.Given as goal

-- those of the ports so far
abbrev pub invariant-loop-port : goal.invariant-loop-port
invariant-loop-port l = l.held.items ≡ flat_map (λ (p : PortRow). map (of_fixed p.network) p.fixed) (take l.port-index l.ports)
