use Rattle.std.proofs.Common.{◌≡◌, ◌++◌, drop, map}
use Rattle.std.specs.List.{filter}
use Rattle.l3_delta.specs.WayKeys.{connected_key, names_subnet}
use Rattle.l3_delta.proofs.way_keys.add_connected_of.Given as goal

-- those so far, and those of the addresses that are left, are all
abbrev pub invariant-loop-fixed : goal.invariant-loop-fixed
invariant-loop-fixed l =
    l.keys.items ++ map (connected_key l.number) (filter (names_subnet l.rows) (drop l.fixed-index l.fixed-items))
    ≡ l.fn.keys.items ++ map (connected_key l.number) (filter (names_subnet l.rows) l.fixed-items)
