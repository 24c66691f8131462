use Rattle.std.proofs.Common.{◌≡◌, ◌++◌, flat_map, map, take}
use Rattle.plane_types.specs.TableRows.{neighbours_of}
use Rattle.l2_delta.proofs.neighbours.add_ports.Given as goal

-- the entries of the ports so far are added
abbrev pub invariant-loop-port : goal.invariant-loop-port
invariant-loop-port l =
    l.neighbours.items ≡ l.fn.neighbours.items ++ flat_map (neighbours_of l.rows l.host l.tags) (map (λ p. p.now) (take l.port-index l.ports))
