use Rattle.std.proofs.Common.{◌≡◌, drop}
use Rattle.lab_world.proofs.Seen.{IsTakenAt}
use Rattle.lab_world.proofs.SoFar.{SoFar}
use Rattle.lab_world.proofs.each.take_all.Given as goal

-- the hosts so far have what was made ready for them, and the rest of it is left
abbrev pub invariant-loop-node : goal.invariant-loop-node
invariant-loop-node l =
    SoFar (IsTakenAt l.number l.fn.ready.items) l.fn.nodes l.nodes l.node-index
    × (l.left.rest.items ≡ drop l.node-index l.fn.ready.items)
