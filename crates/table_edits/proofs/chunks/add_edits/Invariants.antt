use Rattle.std.proofs.Common.{◌≡◌, ◌+◌, ◌++◌, ◌<◌, ◌^◌, map}
use Rattle.std.specs.Prelude.{All}
use Rattle.std.specs.Vec.Iter.{into_iter_items}
use Rattle.table_edits.specs.ChunksSeen.{moved_edit}
use Rattle.table_edits.proofs.chunks.add_edits.Given as goal

-- the edits so far and those that are left are all of them, and each is within a table
abbrev pub invariant-loop-edit : goal.invariant-loop-edit
invariant-loop-edit g l =
    (l.edits ++ map (moved_edit l.start) (into_iter_items l.edit-iterator) ≡ l.fn.edits ++ map (moved_edit l.start) l.fn.found)
    × All (λ e. l.start + e.place < 2 ^ 64) (into_iter_items l.edit-iterator)
