use Rattle.std.proofs.Common.{◌≡◌, ◌++◌, drop, filter}
use Rattle.api_ipam.specs.FixedChoice.{is_pool_four}
use Rattle.api_ipam.proofs.free.pool_fours.Given as goal

-- those so far, and those that are left, are all
abbrev pub invariant-loop-subnet : goal.invariant-loop-subnet
invariant-loop-subnet l = l.found ++ filter is_pool_four (drop l.subnet-index l.subnets) ≡ filter is_pool_four l.subnets
