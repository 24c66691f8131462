use Rattle.std.proofs.Common.{◌≡◌, map, take}
use Rattle.plane_types.specs.declared.table.FilterRow.{FilterRow}
use Rattle.l2_delta.proofs.named_sets.remotes_of.Given as goal

-- the remote groups are those of the filters so far
abbrev pub invariant-loop-filter : goal.invariant-loop-filter
invariant-loop-filter l =
    l.remotes.items ≡ map (λ (r : FilterRow). r.remote_group) (take l.filter-index l.filters)
