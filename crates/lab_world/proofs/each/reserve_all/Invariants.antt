use Rattle.std.proofs.Common.{◌≡◌, ◌≤◌, ◌<◌, ℕ, Some, slice_get}
use Rattle.plane_types.specs.Node.{Node, agents_of}
use Rattle.lab_world.proofs.each.reserve_all.Given as goal

-- all agents are as they were, and the hosts so far have room
abbrev pub invariant-loop-node : goal.invariant-loop-node
invariant-loop-node l =
    (agents_of l.nodes ≡ agents_of l.fn.nodes)
    × ((k : ℕ) (n : Node) → k < l.node-index → slice_get l.nodes k ≡ Some n → 256 ≤ n.spare.entries)
