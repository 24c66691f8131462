use Rattle.std.proofs.Common.{◌≡◌, ◌≤◌, ◌++◌, length, reverse}
use Rattle.l2_delta.proofs.gap_list.unwind.Given as goal

-- the list is the same, and no fewer than so many stay
abbrev pub invariant-loop-front : goal.invariant-loop-front
invariant-loop-front g l =
    (l.front.items ++ reverse l.back.items ≡ l.fn.front.items ++ reverse l.fn.back.items)
    × (l.most ≤ length l.front.items)

abbrev pub decreases-loop-front : goal.decreases-loop-front
decreases-loop-front g l = length l.front.items
