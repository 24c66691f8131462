use Rattle.std.proofs.Common.{sym, subst}
use Rattle.std.specs.List.Sorted.{IsSortedBy}
use Rattle.plane_types.specs.Hosts.{bridge_before, neighbour_before}
use Rattle.plane_types.proofs.lists.TableLists.into_tables.Goals as goal

pub invariant_of-result : goal.invariant_of-result
invariant_of-result c =
    (subst (IsSortedBy bridge_before) (sym c.from_vec.ensures) c.into_vec-5.ensures.ascend, subst (IsSortedBy neighbour_before) (sym c.from_vec-2.ensures) c.into_vec-7.ensures.ascend)
