use Rattle.std.proofs.Common.{◌≡◌, ◌≤◌, drop, length}
use Rattle.std.specs.HashSet.{contains}
use Rattle.std.specs.List.{list_any}
use Rattle.api_types.specs.Ident.{Ident}
use Rattle.api_types.specs.Table.{ident_eq}
use Rattle.plane_types.specs.TableRows.{names_remote}
use Rattle.plane_types.specs.declared.table.FilterRow.{FilterRow}
use Rattle.l2_agent.proofs.sets.remote_groups.Given as goal

-- the set has the groups that the filters from one on name
abbrev pub invariant-loop-left : goal.invariant-loop-left
invariant-loop-left l = record {
  within : l.left ≤ length l.filters;
  found : (g : Ident) → contains ident_eq l.remote g ≡ list_any (λ (r : FilterRow). names_remote g r.remote_group) (drop l.left l.filters);
}

abbrev pub decreases-loop-left : goal.decreases-loop-left
decreases-loop-left l = l.left
