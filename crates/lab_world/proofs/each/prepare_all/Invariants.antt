use Rattle.std.proofs.Common.{◌≡◌, ◌≤◌, ℕ, Option, Some, length, slice_get}
use Rattle.agent_node.specs.declared.rewire.Rewire.{Rewire}
use Rattle.plane_types.specs.Node.{Node, agents_of}
use Rattle.lab_world.specs.Hosts.{IsToldBy}
use Rattle.lab_world.proofs.each.prepare_all.Given as goal

-- all agents are as they were, something is ready for each host so far, and the others are untouched
abbrev pub invariant-loop-node : goal.invariant-loop-node
invariant-loop-node l =
    (agents_of l.nodes ≡ agents_of l.fn.nodes)
    × (length l.ready.items ≡ l.node-index)
    × ((k : ℕ) (n : Node) (o : Option Rewire) → slice_get l.nodes k ≡ Some n → slice_get l.ready.items k ≡ Some o → IsToldBy l.manual l.number l.after n o)
    × ((k : ℕ) → l.node-index ≤ k → slice_get l.nodes k ≡ slice_get l.fn.nodes k)
