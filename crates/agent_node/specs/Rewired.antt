-- What is made ready for a host to take a change: edits of its tables, and the rows after it.
use Rattle.std.specs.Prelude.{◌≡◌, ⊤, true, false, List, Option, Some, None}
use Rattle.std.specs.List.{filter}
use Rattle.net_addr.specs.Words.{Version}
use Rattle.api_types.specs.Consistent.{IsConsistent}
use Rattle.api_types.specs.RowLists.{RowLists}
use Rattle.api_types.specs.declared.change.Item.{Item}
use Rattle.plane_types.specs.Attached.{is_attached}
use Rattle.plane_types.specs.Delta.{AreFewEdits, HasRoom, with_delta}
use Rattle.plane_types.specs.NewTags.{new_tags}
use Rattle.plane_types.specs.Node.{Agent, Node, after_resync, follows}
use Rattle.plane_types.specs.NumberedRows.{numbered_rows, numbered_rows_after}
use Rattle.plane_types.specs.TablesOfRows.{tables_of_rows}
use Rattle.plane_types.specs.declared.delta.Delta.{Delta}
use Rattle.agent_node.specs.declared.rewire.Rewire.{Rewire}

-- the edits lead from the host's tables to those that it makes of the rows, and the host has the
-- room for them
pub record IsReadyFor (n : Node) (r : Rewire) : Type 0 where
  pub consistent : IsConsistent r.rows
  pub leads : with_delta n.agent.tables r.delta
      ≡ tables_of_rows r.rows n.agent.name n.agent.tables.tags
  pub room : HasRoom n.spare.tables r.delta

-- the edits for a change that leads to these rows write no row that stands before and after
abbrev pub AreFewFor : Agent → List Item → RowLists → Delta → Type 0
AreFewFor a change rows =
    AreFewEdits a.name (numbered_rows a.rows) (numbered_rows_after a.rows change) a.tables.tags
    (new_tags rows a.name a.tables.tags)

-- given the rows, with what is held as it was: entries without a tap or router in the new tables go
abbrev pub rewired : RowLists → Agent → Agent
rewired rows a = record a {
  rows = rows;
  tables = tables_of_rows rows a.name a.tables.tags;
  entries = filter (is_attached (tables_of_rows rows a.name a.tables.tags)) a.entries;
}

-- ready for the change with a number that leads to these rows, if it is the next one
abbrev pub IsReadyTo : Version → RowLists → Node → Option Rewire → Type 0
IsReadyTo number rows n None = follows number n.agent.held ≡ false
IsReadyTo number rows n (Some r) =
    (follows number n.agent.held ≡ true) × (r.rows ≡ rows) × IsReadyFor n r

-- what was made ready can be taken
abbrev pub CanTake : Node → Option Rewire → Type 0
CanTake n None = ⊤
CanTake n (Some r) = IsReadyFor n r

abbrev pub after_taking : Version → Option Rewire → Agent → Agent
after_taking number None a = a
after_taking number (Some r) a = after_resync number r.rows a
