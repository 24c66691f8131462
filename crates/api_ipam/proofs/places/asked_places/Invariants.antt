use Rattle.std.proofs.Common.{◌≡◌, ◌++◌, drop}
use Rattle.api_ipam.specs.FixedChoice.{is_in, named_addresses, wishes}
use Rattle.api_ipam.proofs.PlaceLemmas.{placed}
use Rattle.api_ipam.proofs.places.asked_places.Given as goal

-- the places so far, and those of the items that are left, are all
abbrev pub invariant-loop-item : goal.invariant-loop-item
invariant-loop-item l =
    l.places.items ++ placed l.mac l.old (is_in l.taken) (wishes l.subnets (drop l.item-index l.items))
    ≡ placed l.mac l.old (is_in (named_addresses l.items)) (wishes l.subnets l.items)
