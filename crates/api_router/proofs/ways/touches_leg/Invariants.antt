use Rattle.std.proofs.Common.{◌≡◌, drop}
use Rattle.std.specs.List.{list_any}
use Rattle.api_types.specs.RouterWays.{router_ports, touches}
use Rattle.api_router.proofs.ways.touches_leg.Given as goal

-- none so far touches the prefix
abbrev pub invariant-loop-port : goal.invariant-loop-port
invariant-loop-port l =
    list_any (touches l.subnets l.prefix) (router_ports (drop l.port-index l.ports) l.router) ≡ list_any (touches l.subnets l.prefix) (router_ports l.ports l.router)
