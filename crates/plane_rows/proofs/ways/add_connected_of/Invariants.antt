use Rattle.std.proofs.Common.{◌≡◌, ◌++◌, drop, map}
use Rattle.std.specs.List.{filter_map}
use Rattle.api_types.specs.declared.port.Fixed.{Fixed}
use Rattle.api_types.specs.RouterRows.{connected_by}
use Rattle.api_types.specs.RowsWith.{subnet_with}
use Rattle.plane_rows.specs.Ways.{way_of}
use Rattle.plane_rows.proofs.ways.add_connected_of.Given as goal

-- those so far, and the routes to the subnets that are left, are all
abbrev pub invariant-loop-fixed : goal.invariant-loop-fixed
invariant-loop-fixed l =
    map way_of l.ways.items ++ filter_map (λ (f : Fixed). connected_by l.exits (subnet_with l.rows f.subnet)) (drop l.fixed-index l.fixed-items)
    ≡ map way_of l.fn.ways.items ++ filter_map (λ (f : Fixed). connected_by l.exits (subnet_with l.rows f.subnet)) l.fixed-items
