use Rattle.std.proofs.Common.{◌≡◌, ◌++◌, drop, flat_map}
use Rattle.plane_types.specs.Node.{Node}
use Rattle.lab_world.proofs.hosts.Hosts.all_entries.Given as goal

-- the entries so far, and those of the hosts that are left, are all
abbrev pub invariant-loop-node : goal.invariant-loop-node
invariant-loop-node l =
    l.entries.items ++ flat_map (λ (n : Node). n.agent.entries) (drop l.node-index l.node-items) ≡ flat_map (λ (n : Node). n.agent.entries) l.self
