use Rattle.std.proofs.Common.{◌≡◌, drop, map}
use Rattle.std.specs.Prelude.{find, flat_map}
use Rattle.api_types.specs.declared.port.PortRow.{PortRow}
use Rattle.api_types.specs.RouterRows.{holds_next as holds_next_hop}
use Rattle.plane_rows.proofs.ways.fixed_toward.Given as goal

-- the address lies in no subnet of a port so far
abbrev pub invariant-loop-port : goal.invariant-loop-port
invariant-loop-port l =
    find (holds_next_hop l.rows l.address) (flat_map (λ (p : PortRow). p.fixed) (map (λ p. p.now) (drop l.port-index l.legs)))
    ≡ find (holds_next_hop l.rows l.address) (flat_map (λ (p : PortRow). p.fixed) (map (λ p. p.now) l.legs))
