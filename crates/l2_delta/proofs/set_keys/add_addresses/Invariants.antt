use Rattle.std.proofs.Common.{◌≡◌, ◌++◌, map, take}
use Rattle.net_addr.specs.Ordered.{whole_prefix}
use Rattle.api_types.specs.declared.port.Fixed.{Fixed}
use Rattle.l2_delta.proofs.set_keys.add_addresses.Given as goal

-- the prefixes of the addresses so far are added
abbrev pub invariant-loop-held : goal.invariant-loop-held
invariant-loop-held l =
    l.prefixes.items ≡ l.fn.prefixes.items ++ map (λ (f : Fixed). whole_prefix f.address) (take l.held-index l.fixed)
