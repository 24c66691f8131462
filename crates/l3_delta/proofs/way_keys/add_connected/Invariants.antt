use Rattle.std.proofs.Common.{◌≡◌, ◌++◌, ℕ, List, drop, map}
use Rattle.std.specs.Prelude.{flat_map}
use Rattle.api_types.specs.declared.port.PortRow.{PortRow}
use Rattle.l3_delta.specs.WayKeys.{StandIn, connected_keys, ports_when}
use Rattle.l3_delta.proofs.way_keys.add_connected.Given as goal

-- those so far, and those of the ports that are left, are all
abbrev pub invariant-loop-port : goal.invariant-loop-port
invariant-loop-port l =
    (xs : List (ℕ × PortRow)) → StandIn (ports_when l.when l.change.ports) xs
    → map (λ (x : ℕ × PortRow). x.1) xs ≡ map (λ p. p.now) l.legs
    → l.keys.items ++ flat_map (connected_keys l.rows) (drop l.port-index xs)
    ≡ l.fn.keys.items ++ flat_map (connected_keys l.rows) xs
