use Rattle.std.proofs.Common.{◌≡◌, ◌++◌, List, length, map}
use Rattle.std.specs.Prelude.{option_map}
use Rattle.plane_types.specs.Routing.{best_way as best_of_ways}
use Rattle.plane_rows.specs.Ways.{way_of}
use Rattle.plane_rows.specs.declared.ways.Way.{Way}
use Rattle.net_meaning.proofs.router.best_way.Given as goal

-- the best of those taken so far
abbrev pub invariant-loop-way : goal.invariant-loop-way
invariant-loop-way l =
    (taken : List Way) × (l.ways.items ++ taken ≡ l.fn.ways.items) × (option_map way_of l.best ≡ best_of_ways l.destination (map way_of taken))

abbrev pub decreases-loop-way : goal.decreases-loop-way
decreases-loop-way l = length l.ways.items
