use Rattle.std.proofs.Common.{◌≡◌, map, take}
use Rattle.dvr_types.specs.Copies.{copy_port as port_by_rows}
use Rattle.dvr_agent.proofs.ports.copy_ports.Given as goal

-- the ports are those so far
abbrev pub invariant-loop-port : goal.invariant-loop-port
invariant-loop-port l = l.ports ≡ map (port_by_rows l.rows) (map (λ p. p.now) (take l.port-index l.legs))
