use Rattle.std.proofs.Common.{◌-◌, ◌≤◌}
use Rattle.reach_laws.specs.Numbers.{number_end}
use Rattle.reach_sets.proofs.JudgeLemmas.{NoneBelow}
use Rattle.reach_sets.specs.TwoPorts.{two_ports}
use Rattle.reach_sets.proofs.judgement.first_break.Given as goal

-- no number of the range so far breaks the table
abbrev pub invariant-pieces : goal.invariant-pieces
invariant-pieces l = record {
  from : l.wanted.low ≤ l.at;
  none : NoneBelow l.rows (two_ports l.pair) l.wanted l.at;
}

abbrev pub decreases-pieces : goal.decreases-pieces
decreases-pieces l = number_end l.wanted.proto - l.at
