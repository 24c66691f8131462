use Rattle.std.proofs.Common.{◌≡◌, ◌++◌, map, take}
use Rattle.api_types.specs.declared.port.Fixed.{Fixed}
use Rattle.l2_delta.proofs.neighbours.add_addresses.Given as goal

-- the entries of the addresses so far are added
abbrev pub invariant-loop-held : goal.invariant-loop-held
invariant-loop-held l =
    l.neighbours.items ≡ l.fn.neighbours.items ++ map (λ (f : Fixed). record { tag = l.tag; address = f.address; mac = l.mac }) (take l.held-index l.fixed)
