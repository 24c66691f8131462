use Rattle.std.proofs.Common.{◌≡◌, drop, find}
use Rattle.std.specs.Str.{bytes_eq}
use Rattle.plane_types.specs.Node.{Node}
use Rattle.lab_world.proofs.hosts.Hosts.place.Given as goal

-- none so far has the name
abbrev pub invariant-loop-at : goal.invariant-loop-at
invariant-loop-at l = find (λ (n : Node). bytes_eq l.name n.agent.name) (drop l.at l.self) ≡ find (λ (n : Node). bytes_eq l.name n.agent.name) l.self
