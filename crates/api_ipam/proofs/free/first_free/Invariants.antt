use Rattle.std.proofs.Common.{◌≡◌, drop, not}
use Rattle.api_ipam.specs.FixedChoice.{first_free, is_in}
use Rattle.api_ipam.proofs.free.first_free.Given as goal

-- none so far has a free one
abbrev pub invariant-loop-subnet : goal.invariant-loop-subnet
invariant-loop-subnet l =
    first_free (λ x. not (is_in l.held x)) (drop l.subnet-index l.subnets) ≡ first_free (λ x. not (is_in l.held x)) l.subnets
