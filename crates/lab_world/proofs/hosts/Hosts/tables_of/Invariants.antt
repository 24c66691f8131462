use Rattle.std.proofs.Common.{◌≡◌, drop}
use Rattle.lab_world.specs.Hosts.{named_node}
use Rattle.lab_world.proofs.hosts.Hosts.tables_of.Given as goal

-- none so far has the name
abbrev pub invariant-loop-node : goal.invariant-loop-node
invariant-loop-node l = named_node l.name (drop l.node-index l.node-items) ≡ named_node l.name l.self
