use Rattle.std.proofs.Common.{◌≡◌, drop}
use Rattle.std.specs.Prelude.{find}
use Rattle.std.specs.List.{filter}
use Rattle.api_types.specs.Table.{ident_eq}
use Rattle.api_types.specs.declared.port.PortRow.{PortRow}
use Rattle.api_types.specs.RouterRows.{is_leg_of}
use Rattle.plane_rows.proofs.routers.leg.Given as goal

-- no port of the router so far has the id
abbrev pub invariant-loop-port : goal.invariant-loop-port
invariant-loop-port l = find (λ (p : PortRow). ident_eq l.id p.id) (filter (is_leg_of l.rows l.router) (drop l.port-index l.port-items)) ≡ find (λ (p : PortRow). ident_eq l.id p.id) (filter (is_leg_of l.rows l.router) l.rows.ports)
