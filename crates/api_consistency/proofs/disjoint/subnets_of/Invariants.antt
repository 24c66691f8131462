use Rattle.std.proofs.Common.{◌≡◌, map, take}
use Rattle.api_consistency.specs.Keys.{of_subnet}
use Rattle.api_consistency.proofs.disjoint.subnets_of.Given as goal

-- those of the subnets so far
abbrev pub invariant-loop-subnet : goal.invariant-loop-subnet
invariant-loop-subnet l = l.stretches.items ≡ map of_subnet (take l.subnet-index l.subnets)
