use Rattle.std.proofs.Common.{◌≡◌, ◌++◌, drop, map}
use Rattle.plane_types.specs.Node.{agents_of}
use Rattle.lab_world.specs.Hosts.{state_with}
use Rattle.lab_world.proofs.hosts.Hosts.states_with.Given as goal

-- the hosts so far, and those that are left, are all
abbrev pub invariant-loop-node : goal.invariant-loop-node
invariant-loop-node l = l.states ++ map (state_with l.name l.held) (agents_of (drop l.node-index l.node-items)) ≡ map (state_with l.name l.held) (agents_of l.self)
