use Rattle.lab_world.proofs.Seen.{IsKeptAt}
use Rattle.lab_world.proofs.SoFar.{SoFar}
use Rattle.lab_world.proofs.each.keep_all.Given as goal

-- the hosts so far have what they made
abbrev pub invariant-loop-at : goal.invariant-loop-at
invariant-loop-at l = SoFar (IsKeptAt l.fresh) l.fn.nodes l.nodes l.at
