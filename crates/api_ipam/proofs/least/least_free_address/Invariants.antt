use Rattle.std.proofs.Common.{◌≡◌, drop, not}
use Rattle.api_ipam.specs.FixedChoice.{is_in}
use Rattle.api_ipam.specs.Addresses.{least_free_address, lesser}
use Rattle.api_ipam.proofs.least.least_free_address.Given as goal

-- the least of the pools so far, and that of those that are left
abbrev pub invariant-loop-pool : goal.invariant-loop-pool
invariant-loop-pool l =
    lesser l.least (least_free_address (λ x. not (is_in l.held x)) (drop l.pool-index l.pools)) ≡ least_free_address (λ x. not (is_in l.held x)) l.pools
