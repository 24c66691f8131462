use Rattle.std.proofs.Common.{◌≡◌, ◌++◌, take}
use Rattle.l2_delta.proofs.named_sets.add_numbers.Given as goal

-- the numbers so far are added
abbrev pub invariant-loop-number : goal.invariant-loop-number
invariant-loop-number l =
    l.numbers.items ≡ l.fn.numbers.items ++ take l.number-index l.more
