use Rattle.std.proofs.Common.{◌≡◌, ◌++◌, drop}
use Rattle.std.specs.List.{filter_map}
use Rattle.api_types.specs.Table.{place_of}
use Rattle.api_types.specs.declared.group.GroupRow.{GroupRow}
use Rattle.l2_delta.proofs.ruled.add_groups_with.Given as goal

-- the numbers so far, and those of the ids that are left, are all
abbrev pub invariant-loop-id : goal.invariant-loop-id
invariant-loop-id l =
    l.numbers.items ++ filter_map (λ i. place_of (λ (g : GroupRow). g.id) i l.groups.rows) (drop l.id-index l.ids)
    ≡ l.fn.numbers.items ++ filter_map (λ i. place_of (λ (g : GroupRow). g.id) i l.groups.rows) l.ids
