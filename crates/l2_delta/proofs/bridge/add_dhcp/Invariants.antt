use Rattle.std.proofs.Common.{◌≡◌, ◌++◌, drop, map}
use Rattle.std.specs.List.{filter_map}
use Rattle.plane_types.specs.TableRows.{dhcp_row as dhcp_row_of}
use Rattle.l2_delta.proofs.bridge.add_dhcp.Given as goal

-- the entries so far, and those of the ports that are left, are all
abbrev pub invariant-loop-port : goal.invariant-loop-port
invariant-loop-port l =
    l.bridge.items ++ filter_map (dhcp_row_of l.rows l.host l.tags) (map (λ p. p.now) (drop l.port-index l.ports))
    ≡ l.fn.bridge.items ++ filter_map (dhcp_row_of l.rows l.host l.tags) (map (λ p. p.now) l.ports)
