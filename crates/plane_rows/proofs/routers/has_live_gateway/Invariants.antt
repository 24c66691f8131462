use Rattle.std.proofs.Common.{◌≡◌, drop}
use Rattle.std.specs.Prelude.{not}
use Rattle.std.specs.List.{filter, list_any}
use Rattle.api_types.specs.Owners.{is_interface as interface_of}
use Rattle.api_types.specs.declared.port.PortRow.{PortRow}
use Rattle.api_types.specs.RouterRows.{is_leg_of}
use Rattle.plane_rows.proofs.routers.has_live_gateway.Given as goal

-- no port of the router so far is a gateway port
abbrev pub invariant-loop-port : goal.invariant-loop-port
invariant-loop-port l = list_any (λ (p : PortRow). not (interface_of p.owner)) (filter (is_leg_of l.rows l.router) (drop l.port-index l.port-items)) ≡ list_any (λ (p : PortRow). not (interface_of p.owner)) (filter (is_leg_of l.rows l.router) l.rows.ports)
