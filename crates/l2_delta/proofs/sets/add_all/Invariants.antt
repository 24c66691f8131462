use Rattle.std.proofs.Common.{◌≡◌, ◌++◌, take}
use Rattle.l2_delta.proofs.sets.add_all.Given as goal

-- the keys so far are added
abbrev pub invariant-loop-key : goal.invariant-loop-key
invariant-loop-key l =
    l.keys.items ≡ l.fn.keys.items ++ take l.key-index l.more
