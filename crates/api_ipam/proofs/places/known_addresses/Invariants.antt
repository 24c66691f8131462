use Rattle.std.proofs.Common.{◌≡◌, ◌++◌, drop}
use Rattle.api_ipam.specs.FixedChoice.{known_addresses}
use Rattle.api_ipam.proofs.places.known_addresses.Given as goal

-- those so far, and those that are left, are all
abbrev pub invariant-loop-place : goal.invariant-loop-place
invariant-loop-place l = l.known ++ known_addresses (drop l.place-index l.places) ≡ known_addresses l.places
