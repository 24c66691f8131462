use Rattle.std.proofs.Common.{◌≡◌, ◌++◌, map, take}
use Rattle.api_types.specs.declared.port.Pair.{Pair}
use Rattle.l2_delta.proofs.set_keys.add_pairs.Given as goal

-- the prefixes of the pairs so far are added
abbrev pub invariant-loop-pair : goal.invariant-loop-pair
invariant-loop-pair l =
    l.prefixes.items ≡ l.fn.prefixes.items ++ map (λ (x : Pair). x.prefix) (take l.pair-index l.pairs)
