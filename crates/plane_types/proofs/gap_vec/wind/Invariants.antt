use Rattle.std.proofs.Common.{◌≡◌, ◌+◌, ◌≤◌, ◌++◌, length, reverse}
use Rattle.plane_types.proofs.gap_vec.wind.Given as goal

-- the list is the same, and what stands aside has room
abbrev pub invariant-loop-item : goal.invariant-loop-item
invariant-loop-item g l =
    (l.front.items ++ reverse l.back.items ≡ l.fn.front.items ++ reverse l.fn.back.items)
    × (length l.back.items ≤ l.front.spare)
    × (l.fn.front.spare + length l.back.items ≤ l.front.spare + length l.fn.back.items)

abbrev pub decreases-loop-item : goal.decreases-loop-item
decreases-loop-item g l = goal.left-loop-item g l
