use Rattle.std.proofs.Common.{◌≡◌, ◌≤◌, drop, length}
use Rattle.std.specs.Prelude.{option_copied, option_map}
use Rattle.plane_types.specs.Routing.{best_way as best_of_ways}
use Rattle.plane_types.specs.TableStep.{way_at, ways_at}
use Rattle.dvr_fabric.proofs.routes.best_way.Given as goal

-- the best of those from here to the last
abbrev pub invariant-loop-left : goal.invariant-loop-left
invariant-loop-left l =
    (l.left ≤ length l.routes) × (option_map way_at (option_copied l.best) ≡ best_of_ways l.destination (ways_at l.router (drop l.left l.routes)))

abbrev pub decreases-loop-left : goal.decreases-loop-left
decreases-loop-left l = l.left
