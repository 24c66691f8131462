use Rattle.std.proofs.Common.{◌≡◌, ◌++◌, drop}
use Rattle.std.specs.HashSet.{contains}
use Rattle.std.specs.List.{filter_map}
use Rattle.api_types.specs.Table.{ident_eq}
use Rattle.touched_rows.specs.TouchedNumbers.{router_in}
use Rattle.touched_rows.proofs.routers.add_routers_in.Given as goal

-- those so far, and those of the ports that are left, are all
abbrev pub invariant-loop-port : goal.invariant-loop-port
invariant-loop-port l =
    l.touched.items ++ filter_map (router_in (contains ident_eq l.subnets) l.rows l.routers.rows) (drop l.port-index l.port-items)
    ≡ l.fn.touched.items ++ filter_map (router_in (contains ident_eq l.subnets) l.rows l.routers.rows) l.rows.ports
