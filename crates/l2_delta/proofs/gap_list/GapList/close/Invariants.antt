use Rattle.std.proofs.Common.{◌≡◌, ◌++◌, length, reverse}
use Rattle.l2_delta.proofs.gap_list.GapList.close.Given as goal

-- the items are the same
abbrev pub invariant-loop-item : goal.invariant-loop-item
invariant-loop-item g l =
    l.front.items ++ reverse l.back.items ≡ l.initial.front.items ++ reverse l.initial.back.items

abbrev pub decreases-loop-item : goal.decreases-loop-item
decreases-loop-item g l = length l.back.items
