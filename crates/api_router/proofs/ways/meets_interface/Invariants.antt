use Rattle.std.proofs.Common.{◌≡◌, drop}
use Rattle.std.specs.List.{list_any}
use Rattle.api_types.specs.RouterWays.{interfaces_of}
use Rattle.api_router.specs.Ways.{meets_network}
use Rattle.api_router.proofs.ways.meets_interface.Given as goal

-- none so far meets the network
abbrev pub invariant-loop-port : goal.invariant-loop-port
invariant-loop-port l =
    list_any (meets_network l.subnets l.network) (interfaces_of (drop l.port-index l.ports) l.router) ≡ list_any (meets_network l.subnets l.network) (interfaces_of l.ports l.router)
