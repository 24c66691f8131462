use Rattle.std.proofs.Common.{◌≡◌, ◌++◌, map, take}
use Rattle.api_types.specs.declared.port.Pair.{Pair as ThePair}
use Rattle.api_secgroup.proofs.listed.add_pairs.Given as goal

-- the prefixes of the pairs so far are added
abbrev pub invariant-loop-pair : goal.invariant-loop-pair
invariant-loop-pair l = l.prefixes.items ≡ l.fn.prefixes.items ++ map (λ (x : ThePair). x.prefix) (take l.pair-index l.pairs)
