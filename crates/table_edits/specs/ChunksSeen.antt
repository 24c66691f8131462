-- A table with a chunk of rows for each row of a kind: where chunks begin, and edits of one chunk.
use Rattle.std.specs.Prelude.{◌≡◌, ◌+◌, ◌++◌, ℕ, Bool, false, List, [], Option, Some, None, flat_map, length, map, take}
use Rattle.plane_types.specs.Keyed.{row_at}
use Rattle.plane_types.specs.declared.delta.Edit.{Edit}
use Rattle.table_edits.specs.EditsAt.{AreEditsAt, KeysDescend, among}

-- the chunk of a row, if there is one
abbrev pub chunk_at : {X C : Type 0} → (X → List C) → Option X → List C
chunk_at chunk None = []
chunk_at chunk (Some x) = chunk x

-- the rows of all chunks
abbrev pub chunk_rows : {X J R : Type 0} → (X → List (J × R)) → List X → List R
chunk_rows chunk xs = flat_map (λ x. map (λ y. y.1) (chunk x)) xs

-- where the chunk of the row at a place begins
abbrev pub chunk_start : {X J R : Type 0} → (X → List (J × R)) → List X → ℕ → ℕ
chunk_start chunk xs k = length (chunk_rows chunk (take k xs))

-- an edit of a chunk, as one of a table in which the chunk begins at a place
abbrev pub moved_edit : {R : Type 0} → ℕ → Edit R → Edit R
moved_edit start e = record e { place = start + e.place }

-- edits of a chunk at keys outside of which it is as it is to be
pub record AreChunkEdits {J R : Type 0} (before : J → J → Bool) (old new : List (J × R))
    (edits : List (Edit R)) : Type 0 where
  pub keys : List J
  pub down : KeysDescend before keys
  pub are : AreEditsAt before old (λ j. row_at before j new) keys edits
  pub others : (j : J) → among before j keys ≡ false → row_at before j old ≡ row_at before j new

-- the edits of one chunk were added
pub record IsMoreBy {J R : Type 0} (before : J → J → Bool) (old new : List (J × R)) (start : ℕ)
    (edits now : List (Edit R)) : Type 0 where
  pub found : List (Edit R)
  pub are : AreChunkEdits before old new found
  pub added : now ≡ edits ++ map (moved_edit start) found
