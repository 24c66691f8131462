use Rattle.std.proofs.Common.{◌≡◌, ◌++◌, drop, map}
use Rattle.std.specs.List.{filter}
use Rattle.api_types.specs.RouterRows.{is_leg_of}
use Rattle.plane_rows.proofs.ways.legs.Given as goal

-- the ports so far, and those that are left, are all
abbrev pub invariant-loop-port : goal.invariant-loop-port
invariant-loop-port l = map (λ p. p.now) l.legs.items ++ filter (is_leg_of l.rows l.router) (drop l.port-index l.port-items) ≡ filter (is_leg_of l.rows l.router) l.rows.ports
