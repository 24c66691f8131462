-- What an accepted call does to rows, edit by edit, in the order in which its rows are made, set
-- and taken out.
use Rattle.api_types.specs.Ident.{Ident}
use Rattle.api_types.specs.Outcome.{Moved, Outcome}
use Rattle.api_types.specs.Printed.{Reply}
use Rattle.api_types.specs.RowLists.{RowLists}
use Rattle.api_types.specs.WithRows.{with_added, with_put, without_row}
use Rattle.api_types.specs.declared.kind.Kind.{Kind}
use Rattle.api_types.specs.declared.kind.Row.{Row}
use Rattle.std.specs.Prelude.{List, [], map, ◌∷◌}

pub data Edit : Type 0 where
  -- a new row, last of its kind
  Add : Row → Edit
  -- a row in place of the one with its id
  Put : Row → Edit
  -- the row of the kind with the id goes, and the rest closes up
  Drop : Kind → Ident → Edit

abbrev pub edited : RowLists → Edit → RowLists
edited rows (Add r) = with_added rows r
edited rows (Put r) = with_put rows r
edited rows (Drop kind i) = without_row rows kind i

-- the rows after the edits, one after the other
abbrev pub made : RowLists → List Edit → RowLists
made rows [] = rows
made rows (edit ∷ edits) = made (edited rows edit) edits

-- each row of a kind goes
abbrev pub dropped : {R : Type 0} → Kind → (R → Ident) → List R → List Edit
dropped kind id_of rows = map (λ r. Drop kind (id_of r)) rows

-- the call is accepted, and answered by the rows after it
abbrev pub answered : RowLists → (RowLists → Reply) → Outcome
answered rows reply = Moved rows (reply rows)

abbrev pub accepted : RowLists → List Edit → (RowLists → Reply) → Outcome
accepted rows edits reply = answered (made rows edits) reply
