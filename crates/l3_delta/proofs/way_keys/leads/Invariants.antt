use Rattle.std.proofs.Common.{◌≡◌, drop, map}
use Rattle.std.specs.List.{list_any}
use Rattle.api_types.specs.declared.port.PortRow.{PortRow}
use Rattle.api_types.specs.RouterRows.{holds_next as holds_next_hop}
use Rattle.l3_delta.proofs.way_keys.leads.Given as goal

-- the next hop lies in no subnet of a port so far
abbrev pub invariant-loop-port : goal.invariant-loop-port
invariant-loop-port l =
    list_any (λ (p : PortRow). list_any (holds_next_hop l.rows l.hop.next) p.fixed) (map (λ p. p.now) (drop l.port-index l.legs))
    ≡ list_any (λ (p : PortRow). list_any (holds_next_hop l.rows l.hop.next) p.fixed) (map (λ p. p.now) l.legs)
