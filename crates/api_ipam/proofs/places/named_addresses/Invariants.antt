use Rattle.std.proofs.Common.{◌≡◌, ◌++◌, drop}
use Rattle.api_ipam.specs.FixedChoice.{named_addresses}
use Rattle.api_ipam.proofs.places.named_addresses.Given as goal

-- those so far, and those that are left, are all
abbrev pub invariant-loop-item : goal.invariant-loop-item
invariant-loop-item l = l.named ++ named_addresses (drop l.item-index l.items) ≡ named_addresses l.items
