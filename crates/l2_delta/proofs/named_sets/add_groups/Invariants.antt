use Rattle.std.proofs.Common.{◌≡◌, ◌++◌, drop}
use Rattle.std.specs.List.{filter_map}
use Rattle.l2_delta.specs.SetKeys.{group_number}
use Rattle.l2_delta.proofs.named_sets.add_groups.Given as goal

-- the numbers so far, and those of the groups that are left, are all
abbrev pub invariant-loop-group : goal.invariant-loop-group
invariant-loop-group l =
    l.numbers.items ++ filter_map (group_number l.groups.rows) (drop l.group-index l.named)
    ≡ l.fn.numbers.items ++ filter_map (group_number l.groups.rows) l.named
