use Rattle.std.proofs.Common.{◌≡◌, ◌++◌, drop}
use Rattle.std.specs.List.{filter_map}
use Rattle.dvr_types.specs.Copies.{copy_of_router}
use Rattle.dvr_agent.proofs.routers.router_copies.Given as goal

-- the copies so far, and those of the routers that are left, are all
abbrev pub invariant-loop-router : goal.invariant-loop-router
invariant-loop-router l =
    l.copied ++ filter_map (copy_of_router l.legs) (drop l.router-index l.router-items) ≡ filter_map (copy_of_router l.legs) l.legs.routers
