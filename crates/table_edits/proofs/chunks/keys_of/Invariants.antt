use Rattle.std.proofs.Common.{◌≡◌, ◌++◌, map, take}
use Rattle.table_edits.proofs.chunks.keys_of.Given as goal

-- the keys so far are those of the chunk as it is, and those of the rows so far
abbrev pub invariant-loop-row : goal.invariant-loop-row
invariant-loop-row g l = l.keys.items ≡ l.chunk.keys.items ++ map (λ r. r.key) (take l.row-index l.row-items)
