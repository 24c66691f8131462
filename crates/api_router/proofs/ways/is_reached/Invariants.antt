use Rattle.std.proofs.Common.{◌≡◌, drop}
use Rattle.std.specs.List.{list_any}
use Rattle.api_types.specs.RouterWays.{reaches, router_ports}
use Rattle.api_router.proofs.ways.is_reached.Given as goal

-- none so far reaches it
abbrev pub invariant-loop-port : goal.invariant-loop-port
invariant-loop-port l =
    list_any (reaches l.subnets l.address) (router_ports (drop l.port-index l.ports) l.router) ≡ list_any (reaches l.subnets l.address) (router_ports l.ports l.router)
