use Rattle.std.proofs.Common.{◌≡◌, ◌++◌, take}
use Rattle.l2_delta.specs.SetKeys.{keys_at}
use Rattle.l2_delta.proofs.set_keys.add_keys.Given as goal

-- the keys of the prefixes so far are added
abbrev pub invariant-loop-prefix : goal.invariant-loop-prefix
invariant-loop-prefix l =
    l.keys.items ≡ l.fn.keys.items ++ keys_at l.number (take l.prefix-index l.prefixes)
