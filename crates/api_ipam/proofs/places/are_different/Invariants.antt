use Rattle.std.proofs.Common.{◌≡◌, drop}
use Rattle.api_ipam.specs.FixedChoice.{are_different}
use Rattle.api_ipam.proofs.places.are_different.Given as goal

-- those behind differ exactly where all do
abbrev pub invariant-loop-place : goal.invariant-loop-place
invariant-loop-place l = are_different (drop l.place l.addresses) ≡ are_different l.addresses
