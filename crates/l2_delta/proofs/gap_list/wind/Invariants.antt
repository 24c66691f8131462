use Rattle.std.proofs.Common.{◌≡◌, ◌≤◌, ◌++◌, length, reverse}
use Rattle.l2_delta.proofs.gap_list.wind.Given as goal

-- the list is the same, and no more than so many stand before the gap
abbrev pub invariant-loop-back : goal.invariant-loop-back
invariant-loop-back g l =
    (l.front.items ++ reverse l.back.items ≡ l.fn.front.items ++ reverse l.fn.back.items)
    × (length l.front.items ≤ l.least)

abbrev pub decreases-loop-back : goal.decreases-loop-back
decreases-loop-back g l = length l.back.items
