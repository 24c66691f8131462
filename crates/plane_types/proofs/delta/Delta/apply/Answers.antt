use Rattle.std.proofs.Common.{sym, subst}
use Rattle.std.specs.List.Sorted.{IsSortedBy}
use Rattle.plane_types.specs.Edits.{with_edits}
use Rattle.plane_types.specs.Hosts.{bridge_before, neighbour_before}
use Rattle.plane_types.specs.Tables.{Tables}
use Rattle.plane_types.proofs.delta.Delta.apply.Goals as goal

pub invariant_of-tables : goal.invariant_of-tables
invariant_of-tables g c =
    let l2 = c.args.self.l2 in
    let bridge = subst
    (λ (t : Tables). IsSortedBy bridge_before (with_edits t.lists.bridge l2.bridge))
    (sym c.tables.view_is) c.requires.bridge in
    let neighbours = subst
    (λ (t : Tables). IsSortedBy neighbour_before (with_edits t.lists.neighbours l2.neighbours))
    (sym c.tables.view_is) c.requires.neighbours in (
      subst (IsSortedBy bridge_before) (sym c.edit-5.ensures.items) bridge,
      subst (IsSortedBy neighbour_before) (sym c.edit-7.ensures.items) neighbours,
    )
