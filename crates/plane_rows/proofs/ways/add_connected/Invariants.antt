use Rattle.std.proofs.Common.{◌≡◌, ◌++◌, drop, map}
use Rattle.std.specs.Prelude.{flat_map}
use Rattle.std.specs.List.{filter_map}
use Rattle.api_types.specs.declared.port.Fixed.{Fixed}
use Rattle.api_types.specs.declared.port.PortRow.{PortRow}
use Rattle.api_types.specs.Ascending.{ascending as in_order}
use Rattle.api_types.specs.RouterRows.{by_address, connected_by}
use Rattle.api_types.specs.RowsWith.{subnet_with}
use Rattle.plane_rows.specs.Ways.{way_of}
use Rattle.plane_rows.proofs.ways.add_connected.Given as goal

-- those so far, and the routes to the subnets of the ports that are left, are all
abbrev pub invariant-loop-port : goal.invariant-loop-port
invariant-loop-port l =
    map way_of l.ways.items
    ++ flat_map (λ (p : PortRow). filter_map (λ (f : Fixed). connected_by l.exits (subnet_with l.rows f.subnet)) (in_order by_address p.fixed)) (map (λ p. p.now) (drop l.port-index l.legs))
    ≡ map way_of l.fn.ways.items
    ++ flat_map (λ (p : PortRow). filter_map (λ (f : Fixed). connected_by l.exits (subnet_with l.rows f.subnet)) (in_order by_address p.fixed)) l.exits
