use Rattle.std.proofs.Common.{◌≡◌, drop}
use Rattle.std.specs.Prelude.{◌||◌}
use Rattle.std.specs.List.{list_any}
use Rattle.net_addr.specs.Addresses.{addr_eq}
use Rattle.net_addr.specs.declared.address.Addr.{Addr}
use Rattle.api_types.specs.declared.port.Fixed.{Fixed}
use Rattle.api_ipam.specs.FixedChoice.{is_in}
use Rattle.api_ipam.proofs.held.HeldAddresses.take_each.Given as goal

-- those so far, and those that are left, are all
abbrev pub invariant-loop-one : goal.invariant-loop-one
invariant-loop-one l =
    (x : Addr)
    → (is_in l.self x || list_any (λ (f : Fixed). addr_eq f.address x) (drop l.one-index l.fixed))
    ≡ (is_in l.fn.self x || list_any (λ (f : Fixed). addr_eq f.address x) l.fixed)
