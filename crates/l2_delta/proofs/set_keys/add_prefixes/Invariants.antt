use Rattle.std.proofs.Common.{◌≡◌, ◌++◌, drop}
use Rattle.std.specs.List.{filter_map}
use Rattle.l2_delta.specs.SetKeys.{prefix_in}
use Rattle.l2_delta.proofs.set_keys.add_prefixes.Given as goal

-- the prefixes so far, and those of the rows that are left, are all
abbrev pub invariant-loop-row : goal.invariant-loop-row
invariant-loop-row l =
    l.prefixes.items ++ filter_map (prefix_in l.group) (drop l.row-index l.sets)
    ≡ l.fn.prefixes.items ++ filter_map (prefix_in l.group) l.sets
