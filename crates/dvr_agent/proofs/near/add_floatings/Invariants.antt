use Rattle.std.proofs.Common.{◌≡◌, ◌++◌, drop}
use Rattle.std.specs.List.{filter_map}
use Rattle.dvr_types.specs.Copies.{near_floating as row_by_floating}
use Rattle.dvr_agent.proofs.near.add_floatings.Given as goal

-- the rows so far, and those of the floating addresses that are left, are all
abbrev pub invariant-loop-floating : goal.invariant-loop-floating
invariant-loop-floating l =
    l.near ++ filter_map (row_by_floating l.networks l.host) (drop l.floating-index l.floating-items)
    ≡ l.fn.near ++ filter_map (row_by_floating l.networks l.host) l.networks.floatings
