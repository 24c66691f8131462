use Rattle.std.proofs.Common.{◌≡◌, drop}
use Rattle.api_types.specs.RouterWays.{interfaces_of}
use Rattle.api_types.specs.Table.{row_of}
use Rattle.api_types.specs.declared.port.PortRow.{PortRow}
use Rattle.api_router.proofs.ways.interface_with.Given as goal

-- none so far has the id
abbrev pub invariant-loop-port : goal.invariant-loop-port
invariant-loop-port l =
    row_of (λ (p : PortRow). p.id) l.id (interfaces_of (drop l.port-index l.ports) l.router) ≡ row_of (λ (p : PortRow). p.id) l.id (interfaces_of l.ports l.router)
