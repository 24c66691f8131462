use Rattle.std.proofs.Common.{◌≡◌, ◌++◌, flat_map, take}
use Rattle.dvr_types.specs.Copies.{near_rows_of}
use Rattle.dvr_agent.proofs.near.add_ports.Given as goal

-- the rows of the ports so far are added
abbrev pub invariant-loop-port : goal.invariant-loop-port
invariant-loop-port l = l.near ≡ l.fn.near ++ flat_map (near_rows_of l.networks l.host) (take l.port-index l.port-items)
