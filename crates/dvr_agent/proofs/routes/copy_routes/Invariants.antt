use Rattle.std.proofs.Common.{◌≡◌, ◌++◌, [], drop, if◌then◌else◌, map}
use Rattle.std.specs.Prelude.{flat_map}
use Rattle.api_types.specs.RouterRows.{ways_of}
use Rattle.plane_types.specs.TableRows.{route_row}
use Rattle.dvr_types.specs.Copies.{is_copied}
use Rattle.dvr_agent.proofs.routes.copy_routes.Given as goal

-- the rows so far, and those of the routers that are left, are all
abbrev pub invariant-loop-router : goal.invariant-loop-router
invariant-loop-router l =
    l.routes ++ flat_map (λ r. if is_copied l.legs r then map (route_row r.id) (ways_of l.legs r) else []) (drop l.router-index l.router-items)
    ≡ flat_map (λ r. if is_copied l.legs r then map (route_row r.id) (ways_of l.legs r) else []) l.legs.routers
