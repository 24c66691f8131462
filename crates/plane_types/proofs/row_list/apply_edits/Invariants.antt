use Rattle.std.proofs.Common.{◌≡◌, ◌+◌, ◌≤◌}
use Rattle.std.specs.Vec.Iter.{into_iter_items}
use Rattle.plane_types.specs.Edits.{all_puts, all_writes, with_edits}
use Rattle.plane_types.proofs.row_list.apply_edits.Given as goal

-- the edits that are left lead from the rows so far to those of all edits, and have room
abbrev pub invariant-loop-edit : goal.invariant-loop-edit
invariant-loop-edit g l =
    (with_edits (g.T.RowList.seen l.rows).items (into_iter_items l.edit-iterator)
    ≡ with_edits (g.T.RowList.seen l.fn.rows).items l.fn.edits)
    × (all_puts (into_iter_items l.edit-iterator) ≤ (g.T.RowList.seen l.rows).spare)
    × ((g.T.RowList.seen l.fn.rows).spare + all_puts (into_iter_items l.edit-iterator)
    ≤ (g.T.RowList.seen l.rows).spare + all_puts l.fn.edits)
    × (l.steps + all_writes (into_iter_items l.edit-iterator)
    ≡ l.fn.steps + all_writes l.fn.edits)
