use Rattle.std.proofs.Common.{◌≡◌, flat_map, take}
use Rattle.api_consistency.specs.Keys.{legs_of}
use Rattle.api_consistency.proofs.disjoint.reached_of.Given as goal

-- those of the ports so far
abbrev pub invariant-loop-port : goal.invariant-loop-port
invariant-loop-port l = l.reached.items ≡ flat_map (legs_of l.rows.subnets) (take l.port-index l.ports)
