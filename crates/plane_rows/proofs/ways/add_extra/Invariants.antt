use Rattle.std.proofs.Common.{◌≡◌, ◌++◌, drop, map}
use Rattle.api_types.specs.RouterRows.{extra_way}
use Rattle.std.specs.List.{filter_map}
use Rattle.plane_rows.specs.Ways.{way_of}
use Rattle.plane_rows.proofs.ways.add_extra.Given as goal

-- those so far, and the routes that are left, are all
abbrev pub invariant-loop-hop : goal.invariant-loop-hop
invariant-loop-hop l =
    map way_of l.ways.items ++ filter_map (extra_way l.rows l.exits) (drop l.hop-index l.routes)
    ≡ map way_of l.fn.ways.items ++ filter_map (extra_way l.rows l.exits) l.routes
