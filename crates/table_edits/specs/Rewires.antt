-- What a change does to rows, and edits that make of a table's rows those after it.
use Rattle.std.specs.Prelude.{◌≡◌, Bool, List}
use Rattle.api_types.specs.Consistent.{IsConsistent}
use Rattle.api_types.specs.RowLists.{RowLists}
use Rattle.api_types.specs.Rows.{Fits, after}
use Rattle.api_types.specs.declared.change.Item.{Item}
use Rattle.plane_types.specs.Edits.{AreFew, with_edits}
use Rattle.plane_types.specs.declared.delta.Edit.{Edit}

-- a change leads from consistent rows to consistent rows
pub record LeadsOn (before : RowLists) (change : List Item) (now : RowLists) : Type 0 where
  pub fits : Fits before change
  pub leads : now ≡ after before change
  pub consistent : IsConsistent before
  pub stays_consistent : IsConsistent now

-- edits make of the rows of a table those that are to be, and write no row that stands in both
-- under its key
pub record Rewires {K R : Type 0} (before : K → K → Bool) (old new : List (K × R))
    (rows now : List R) (edits : List (Edit R)) : Type 0 where
  pub leads : with_edits rows edits ≡ now
  pub few : AreFew before old new edits
