-- Edits at touched keys lead from one keyed table to another, and are few.
use Rattle.std.proofs.Common.{◌≡◌, List, Bool, false, refl}
use Rattle.plane_types.specs.Keyed.{Enumerates, IsTotal, Rises, row_at}
use Rattle.plane_types.specs.declared.delta.Edit.{Edit}
use Rattle.plane_types.proofs.KeyedTablesLemmas.{unkeyed}
use Rattle.table_edits.specs.EditsAt.{AreEditsAt, KeysDescend, among}
use Rattle.table_edits.specs.Rewires.{Rewires}
use Rattle.table_edits.proofs.EditsAtLemmas.{edits_at_lead}

-- a keyed table is the partial function that finds a key in it
pub itself : {K R : Type 0} (before : K → K → Bool) (xs : List (K × R)) → Rises before xs → Enumerates before (λ k. row_at before k xs) (unkeyed xs)
itself before xs up = record { entries = xs; rows_are = refl; rises = up; at_is = λ k. refl }

pub keyed_lead : {K R : Type 0} (before : K → K → Bool) → IsTotal before → (old new : List (K × R)) → Rises before old → Rises before new
    → (ks : List K) (es : List (Edit R)) → KeysDescend before ks → AreEditsAt before old (λ k. row_at before k new) ks es
    → ((q : K) → among before q ks ≡ false → row_at before q old ≡ row_at before q new)
    → Rewires before old new (unkeyed old) (unkeyed new) es
unfolding itself
keyed_lead before order old new up_old up_new ks es down are same =
    let p = edits_at_lead before order (λ k. row_at before k old) (λ k. row_at before k new) (unkeyed old) (unkeyed new) (itself before old up_old) (itself before new up_new) ks es down are same in
    record { leads = p.0; few = p.1 }
