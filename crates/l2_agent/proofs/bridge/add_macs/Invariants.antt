use Rattle.std.proofs.Common.{◌≡◌, ◌++◌, drop}
use Rattle.std.specs.List.{filter_map}
use Rattle.plane_types.specs.TableRows.{mac_row}
use Rattle.l2_agent.proofs.bridge.add_macs.Given as goal

-- the entries so far, and those of the ports that are left, are all
abbrev pub invariant-loop-port : goal.invariant-loop-port
invariant-loop-port l =
    l.bridge.items ++ filter_map (mac_row l.routers l.host l.tags) (drop l.port-index l.port-items) ≡ l.fn.bridge.items ++ filter_map (mac_row l.routers l.host l.tags) l.routers.ports
