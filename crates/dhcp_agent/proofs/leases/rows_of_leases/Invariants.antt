use Rattle.std.proofs.Common.{◌≡◌, ◌++◌, drop}
use Rattle.std.specs.List.{filter_map}
use Rattle.plane_types.specs.TableRows.{lease_row as lease_row_of}
use Rattle.dhcp_agent.proofs.leases.rows_of_leases.Given as goal

-- the rows so far, and those of the ports that are left, are all
abbrev pub invariant-loop-port : goal.invariant-loop-port
invariant-loop-port l =
    l.leases ++ filter_map (lease_row_of l.served l.host l.tags) (drop l.port-index l.port-items) ≡ filter_map (lease_row_of l.served l.host l.tags) l.served.ports
