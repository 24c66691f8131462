use Rattle.std.proofs.Common.{◌≡◌, ◌+◌, ◌≤◌, ◌++◌, length, reverse}
use Rattle.plane_types.proofs.gap_vec.unwind.Given as goal

-- the list is the same, and has no less room
abbrev pub invariant-loop : goal.invariant-loop
invariant-loop g l =
    (l.front.items ++ reverse l.back.items ≡ l.fn.front.items ++ reverse l.fn.back.items)
    × (l.fn.front.spare + length l.back.items ≤ l.front.spare + length l.fn.back.items)
    × (l.least ≤ length l.fn.front.items → l.least ≤ length l.front.items)
