use Rattle.std.proofs.Common.{drop}
use Rattle.table_edits.proofs.ChunkLaw.{ChunksSoFar}
use Rattle.table_edits.proofs.chunks.edits_by_chunk.Given as goal

-- the edits so far before any of the sources that are left
abbrev pub invariant-loop-number : goal.invariant-loop-number
invariant-loop-number g l =
    ChunksSoFar g.T.Key.TableKey.before g.met.T.Key.TableKey.total (g.T.ByChunk.came l.table) (g.T.ByChunk.comes l.table) l.numbers.rows l.numbers.items
    l.touched (drop l.number-index l.touched) l.edits
