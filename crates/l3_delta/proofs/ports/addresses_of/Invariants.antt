use Rattle.std.proofs.Common.{◌≡◌, map, take}
use Rattle.api_types.specs.declared.port.Fixed.{Fixed}
use Rattle.l3_delta.proofs.ports.addresses_of.Given as goal

-- the addresses are those so far
abbrev pub invariant-loop-fixed : goal.invariant-loop-fixed
invariant-loop-fixed l =
    l.addresses ≡ map (λ (f : Fixed). f.address) (take l.fixed-index l.port.fixed)
