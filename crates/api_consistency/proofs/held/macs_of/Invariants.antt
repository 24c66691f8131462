use Rattle.std.proofs.Common.{◌≡◌, map, take}
use Rattle.api_consistency.specs.Keys.{of_mac}
use Rattle.api_consistency.proofs.held.macs_of.Given as goal

-- those of the ports so far
abbrev pub invariant-loop-port : goal.invariant-loop-port
invariant-loop-port l = l.macs.items ≡ map of_mac (take l.port-index l.ports)
