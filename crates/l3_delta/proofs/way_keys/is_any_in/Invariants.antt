use Rattle.std.proofs.Common.{◌≡◌, drop, map}
use Rattle.std.specs.List.{list_any}
use Rattle.api_types.specs.Owners.{holds_in}
use Rattle.l3_delta.proofs.way_keys.is_any_in.Given as goal

-- none of those so far is in the subnet
abbrev pub invariant-loop-port : goal.invariant-loop-port
invariant-loop-port l =
    list_any (holds_in l.subnet) (map (λ p. p.now) (drop l.port-index l.legs))
    ≡ list_any (holds_in l.subnet) (map (λ p. p.now) l.legs)
