use Rattle.std.proofs.Common.{◌≡◌, ◌++◌, drop, map}
use Rattle.plane_types.specs.Node.{agents_of}
use Rattle.lab_world.specs.Lab.{host_state}
use Rattle.lab_world.proofs.hosts.Hosts.states.Given as goal

-- the hosts so far, and those that are left, are all
abbrev pub invariant-loop-node : goal.invariant-loop-node
invariant-loop-node l = l.states ++ map host_state (agents_of (drop l.node-index l.node-items)) ≡ map host_state (agents_of l.self)
