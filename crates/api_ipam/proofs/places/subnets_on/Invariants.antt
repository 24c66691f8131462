use Rattle.std.proofs.Common.{◌≡◌, ◌++◌, drop}
use Rattle.api_types.specs.HeldAddresses.{subnets_on}
use Rattle.api_ipam.proofs.places.subnets_on.Given as goal

-- those so far, and those that are left, are all
abbrev pub invariant-loop-subnet : goal.invariant-loop-subnet
invariant-loop-subnet l = l.found ++ subnets_on (drop l.subnet-index l.subnets) l.network ≡ subnets_on l.subnets l.network
