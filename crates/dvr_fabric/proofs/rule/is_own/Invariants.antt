use Rattle.std.proofs.Common.{◌≡◌, drop, map}
use Rattle.std.specs.List.{list_any}
use Rattle.net_addr.specs.Addresses.{addr_eq}
use Rattle.api_types.specs.RouterViews.{Leg}
use Rattle.dvr_types.specs.CopySteps.{copy_leg}
use Rattle.dvr_fabric.proofs.rule.is_own.Given as goal

-- none so far holds the address
abbrev pub invariant-loop-port : goal.invariant-loop-port
invariant-loop-port l =
    list_any (λ (x : Leg). list_any (λ a. addr_eq a l.address) x.addresses) (map copy_leg (drop l.port-index l.port-items))
    ≡ list_any (λ (x : Leg). list_any (λ a. addr_eq a l.address) x.addresses) (map copy_leg l.copy.ports)
