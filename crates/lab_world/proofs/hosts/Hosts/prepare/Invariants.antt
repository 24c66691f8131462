use Rattle.std.proofs.Common.{◌≡◌, ◌++◌, drop, map}
use Rattle.plane_types.specs.Node.{agents_of, ready_for}
use Rattle.lab_world.proofs.hosts.Hosts.prepare.Given as goal

-- what is ready so far, and what is left, is all
abbrev pub invariant-loop-node : goal.invariant-loop-node
invariant-loop-node l =
    l.ready.items ++ map (ready_for l.version l.rows) (agents_of (drop l.node-index l.node-items)) ≡ map (ready_for l.version l.rows) (agents_of l.self)
