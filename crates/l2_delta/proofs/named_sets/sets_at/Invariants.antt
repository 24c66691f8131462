use Rattle.std.proofs.Common.{◌≡◌, map, take}
use Rattle.l2_delta.specs.TouchedSets.{set_at}
use Rattle.l2_delta.proofs.named_sets.sets_at.Given as goal

-- the sets are those of the numbers so far
abbrev pub invariant-loop-number : goal.invariant-loop-number
invariant-loop-number l =
    l.sets.items ≡ map (set_at l.groups l.filters l.remotes) (take l.number-index l.numbers)
