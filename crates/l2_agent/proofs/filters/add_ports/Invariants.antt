use Rattle.std.proofs.Common.{◌≡◌, ◌++◌, flat_map, take}
use Rattle.plane_types.specs.TableRows.{filters_of}
use Rattle.l2_agent.proofs.filters.add_ports.Given as goal

-- the rows of the ports so far are added
abbrev pub invariant-loop-port : goal.invariant-loop-port
invariant-loop-port l =
    l.filters ≡ l.fn.filters ++ flat_map (filters_of l.ruled l.host) (take l.port-index l.port-items)
