use Rattle.std.proofs.Common.{◌≡◌, ◌++◌, drop}
use Rattle.api_ipam.specs.FixedChoice.{addresses_of}
use Rattle.api_ipam.proofs.asked.addresses_of.Given as goal

-- those so far, and those that are left, are all
abbrev pub invariant-loop-one : goal.invariant-loop-one
invariant-loop-one l = l.addresses ++ addresses_of (drop l.one-index l.fixed) ≡ addresses_of l.fixed
