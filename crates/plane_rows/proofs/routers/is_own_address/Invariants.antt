use Rattle.std.proofs.Common.{◌≡◌, drop}
use Rattle.std.specs.List.{filter, list_any}
use Rattle.api_types.specs.declared.port.PortRow.{PortRow}
use Rattle.api_types.specs.Holders.{holds as holds_address}
use Rattle.api_types.specs.RouterRows.{is_leg_of}
use Rattle.plane_rows.proofs.routers.is_own_address.Given as goal

-- no port of the router so far holds the address
abbrev pub invariant-loop-port : goal.invariant-loop-port
invariant-loop-port l = list_any (λ (p : PortRow). holds_address p l.address) (filter (is_leg_of l.rows l.router) (drop l.port-index l.port-items)) ≡ list_any (λ (p : PortRow). holds_address p l.address) (filter (is_leg_of l.rows l.router) l.rows.ports)
