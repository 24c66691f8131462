use Rattle.std.proofs.Common.{sym, subst}
use Rattle.std.specs.List.Sorted.{IsSortedBy}
use Rattle.api_types.proofs.SortLemmas.{ascending_sorted}
use Rattle.plane_types.proofs.ascending.Ascending.of.Goals as goal

pub invariant_of-result : goal.invariant_of-result
invariant_of-result g c = subst (IsSortedBy g.T.Ordered.before) (sym c.in_ok-ascending.ensures) (ascending_sorted g.T.Ordered.before g.met.T.Ordered.order c.args.items.items)
