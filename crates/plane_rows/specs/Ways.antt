-- Routes of routers, as code has them.
use Rattle.std.specs.Prelude.{List, [], ◌++◌, Option, Some, None, flat_map}
use Rattle.api_types.specs.Ascending.{ascending}
use Rattle.api_types.specs.RowLists.{RowLists}
use Rattle.api_types.specs.declared.port.Fixed.{Fixed}
use Rattle.api_types.specs.declared.port.PortRow.{PortRow}
use Rattle.api_types.specs.declared.router.RouterRow.{RouterRow}
use Rattle.api_types.specs.Holders.{gateway_port}
use Rattle.api_types.specs.RouterRows.{by_address, connected_ways, default_by, default_of, extra_ways}
use Rattle.api_types.specs.RowsWith.{subnet_with}
use Rattle.api_types.specs.RouterViews.{Way as TheWay}
use Rattle.plane_rows.specs.declared.ways.Way.{Way}

abbrev pub way_of : Way → TheWay
way_of w = record { prefix = w.prefix; rank = w.rank; next = w.next; port = w.port }

-- the default routes by a gateway port, where there is one that is live
abbrev pub defaults_of_port : RowLists → List PortRow → Option PortRow → List TheWay
defaults_of_port rows legs None = []
defaults_of_port rows legs (Some p) =
    flat_map (λ (f : Fixed). default_by legs (subnet_with rows f.subnet))
    (ascending by_address p.fixed)

-- the routes of a router whose live ports are these
abbrev pub ways_by : RowLists → List PortRow → RouterRow → List TheWay
ways_by rows legs r =
    connected_ways rows legs ++ extra_ways rows legs r.routes
    ++ default_of rows legs (gateway_port rows r)
