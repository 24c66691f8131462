use Rattle.std.proofs.Common.{◌≡◌, drop}
use Rattle.std.specs.List.{list_any}
use Rattle.api_types.specs.HeldAddresses.{is_own_address}
use Rattle.api_types.specs.RouterWays.{router_ports}
use Rattle.api_router.proofs.ways.is_held.Given as goal

-- none so far holds it
abbrev pub invariant-loop-port : goal.invariant-loop-port
invariant-loop-port l =
    list_any (is_own_address l.address) (router_ports (drop l.port-index l.ports) l.router) ≡ list_any (is_own_address l.address) (router_ports l.ports l.router)
