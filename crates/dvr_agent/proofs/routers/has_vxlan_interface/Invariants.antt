use Rattle.std.proofs.Common.{◌≡◌, drop, map}
use Rattle.std.specs.List.{list_any}
use Rattle.dvr_types.specs.Copies.{is_vxlan_interface as interface_by_rows}
use Rattle.dvr_agent.proofs.routers.has_vxlan_interface.Given as goal

-- none of the ports so far is an interface on a vxlan network
abbrev pub invariant-loop-port : goal.invariant-loop-port
invariant-loop-port l =
    list_any (interface_by_rows l.rows) (map (λ p. p.now) (drop l.port-index l.legs)) ≡ list_any (interface_by_rows l.rows) (map (λ p. p.now) l.legs)
