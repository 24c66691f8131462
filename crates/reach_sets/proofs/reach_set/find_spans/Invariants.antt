use Rattle.std.proofs.Common.{◌-◌, ◌≤◌}
use Rattle.reach_laws.specs.Numbers.{number_end}
use Rattle.reach_sets.specs.Growth.{AreSoFar}
use Rattle.reach_sets.specs.TwoPorts.{IsReachedBetween, two_ports}
use Rattle.reach_sets.proofs.reach_set.find_spans.Given as goal

-- the spans so far are exact below the next piece
abbrev pub invariant-pieces : goal.invariant-pieces
invariant-pieces l = record {
  within : l.at ≤ number_end l.kind;
  so_far : AreSoFar (IsReachedBetween l.rows (two_ports l.pair) l.kind) l.at l.growing;
}

abbrev pub decreases-pieces : goal.decreases-pieces
decreases-pieces l = number_end l.kind - l.at
