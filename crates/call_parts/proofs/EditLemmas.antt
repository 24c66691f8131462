-- Edits one after the other.
use Rattle.std.proofs.Common.{◌≡◌, List, [], ◌∷◌, ◌++◌, ap, map, refl}
use Rattle.api_types.specs.Ident.{Ident}
use Rattle.api_types.specs.RowLists.{RowLists}
use Rattle.api_types.specs.declared.kind.Kind.{Kind}
use Rattle.call_parts.specs.Edits.{Drop, Edit, dropped, edited, made}

pub made-append : (rows : RowLists) (es fs : List Edit) → made rows (es ++ fs) ≡ made (made rows es) fs
made-append rows [] fs = refl
made-append rows (e ∷ es) fs = made-append (edited rows e) es fs

-- rows that go are named by their ids
pub dropped_ids : {R : Type 0} (kind : Kind) (id_of : R → Ident) (rows : List R) → dropped kind id_of rows ≡ map (λ i. Drop kind i) (map id_of rows)
dropped_ids kind id_of [] = refl
dropped_ids kind id_of (r ∷ rows) = ap (λ es. Drop kind (id_of r) ∷ es) (dropped_ids kind id_of rows)
