use Rattle.std.proofs.Common.{◌≡◌, ◌++◌, drop, map}
use Rattle.std.specs.List.{filter_map}
use Rattle.plane_types.specs.TableRows.{tagged_by}
use Rattle.l3_delta.proofs.ports.rows_of_ports.Given as goal

-- the rows so far, and those of the ports that are left, are all
abbrev pub invariant-loop-port : goal.invariant-loop-port
invariant-loop-port l =
    l.ports ++ filter_map (tagged_by l.rows l.tags) (map (λ p. p.now) (drop l.port-index l.legs))
    ≡ filter_map (tagged_by l.rows l.tags) (map (λ p. p.now) l.legs)
