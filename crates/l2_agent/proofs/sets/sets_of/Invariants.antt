use Rattle.std.proofs.Common.{◌≡◌, flat_map, take}
use Rattle.std.specs.HashSet.{contains}
use Rattle.api_types.specs.Table.{ident_eq}
use Rattle.api_types.specs.declared.group.GroupRow.{GroupRow}
use Rattle.l2_agent.specs.Among.{set_if}
use Rattle.l2_agent.proofs.sets.sets_of.Given as goal

-- the rows are those of the groups so far
abbrev pub invariant-loop-group : goal.invariant-loop-group
invariant-loop-group l =
    l.sets ≡ flat_map (λ (g : GroupRow). set_if l.ports (contains ident_eq l.remote g.id) g) (take l.group-index l.group-items)
