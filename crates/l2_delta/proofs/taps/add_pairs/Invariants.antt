use Rattle.std.proofs.Common.{◌≡◌, ◌++◌, take}
use Rattle.l2_delta.proofs.taps.add_pairs.Given as goal

-- the pairs so far are added
abbrev pub invariant-loop-pair : goal.invariant-loop-pair
invariant-loop-pair l =
    l.allowed ≡ l.fn.allowed ++ take l.pair-index l.pairs
