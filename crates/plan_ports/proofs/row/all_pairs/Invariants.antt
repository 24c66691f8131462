use Rattle.std.proofs.Common.{◌≡◌, ◌++◌, drop, map}
use Rattle.plan_ports.specs.PortCalls.{pair_of}
use Rattle.plan_ports.proofs.row.all_pairs.Given as goal

-- the pairs so far, before those of what is left
abbrev pub invariant-loop-one : goal.invariant-loop-one
invariant-loop-one l = l.pairs ++ map (pair_of l.mac) (drop l.one-index l.asked) ≡ map (pair_of l.mac) l.asked
