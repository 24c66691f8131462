use Rattle.std.proofs.Common.{◌≡◌, ◌++◌, drop, map}
use Rattle.api_types.specs.RouterRows.{ways_of}
use Rattle.plane_types.specs.TableRows.{route_row}
use Rattle.plane_rows.specs.Ways.{way_of}
use Rattle.dvr_agent.proofs.routes.add_router.Given as goal

-- the rows so far, and those of the routes that are left, are all
abbrev pub invariant-loop-way : goal.invariant-loop-way
invariant-loop-way l =
    l.routes ++ map (route_row l.router.id) (map way_of (drop l.way-index l.way-items)) ≡ l.fn.routes ++ map (route_row l.router.id) (ways_of l.legs l.router)
