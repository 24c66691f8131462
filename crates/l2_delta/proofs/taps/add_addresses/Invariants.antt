use Rattle.std.proofs.Common.{◌≡◌, ◌++◌, map, take}
use Rattle.net_addr.specs.Ordered.{whole_prefix}
use Rattle.api_types.specs.declared.port.Fixed.{Fixed}
use Rattle.l2_delta.proofs.taps.add_addresses.Given as goal

-- the pairs of the addresses so far are added
abbrev pub invariant-loop-held : goal.invariant-loop-held
invariant-loop-held l =
    l.allowed ≡ l.fn.allowed ++ map (λ (f : Fixed). record { mac = l.mac; prefix = whole_prefix f.address }) (take l.held-index l.fixed)
