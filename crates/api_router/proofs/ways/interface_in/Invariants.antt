use Rattle.std.proofs.Common.{◌≡◌, drop}
use Rattle.std.specs.Prelude.{find}
use Rattle.api_types.specs.Owners.{holds_in}
use Rattle.api_types.specs.RouterWays.{interfaces_of}
use Rattle.api_router.proofs.ways.interface_in.Given as goal

-- none so far holds an address in the subnet
abbrev pub invariant-loop-port : goal.invariant-loop-port
invariant-loop-port l =
    find (holds_in l.subnet) (interfaces_of (drop l.port-index l.ports) l.router) ≡ find (holds_in l.subnet) (interfaces_of l.ports l.router)
