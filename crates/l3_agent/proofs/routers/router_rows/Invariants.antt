use Rattle.std.proofs.Common.{◌≡◌, ◌++◌, Some, None, drop, if◌then◌else◌}
use Rattle.std.specs.List.{filter_map}
use Rattle.plane_types.specs.TableRows.{is_on_host, router_row as router_row_of}
use Rattle.l3_agent.proofs.routers.router_rows.Given as goal

-- the rows so far, and those of the routers that are left, are all
abbrev pub invariant-loop-router : goal.invariant-loop-router
invariant-loop-router l =
    l.routers ++ filter_map (λ r. if is_on_host l.host r then Some (router_row_of l.legs l.tags r) else None) (drop l.router-index l.router-items)
    ≡ filter_map (λ r. if is_on_host l.host r then Some (router_row_of l.legs l.tags r) else None) l.legs.routers
