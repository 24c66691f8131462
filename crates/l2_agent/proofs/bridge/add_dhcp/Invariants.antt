use Rattle.std.proofs.Common.{◌≡◌, ◌++◌, drop}
use Rattle.std.specs.List.{filter_map}
use Rattle.plane_types.specs.TableRows.{dhcp_row as dhcp_row_of}
use Rattle.l2_agent.proofs.bridge.add_dhcp.Given as goal

-- the entries so far, and those of the ports that are left, are all
abbrev pub invariant-loop-port : goal.invariant-loop-port
invariant-loop-port l =
    l.bridge.items ++ filter_map (dhcp_row_of l.routers l.host l.tags) (drop l.port-index l.port-items) ≡ l.fn.bridge.items ++ filter_map (dhcp_row_of l.routers l.host l.tags) l.routers.ports
