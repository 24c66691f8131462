-- One host's agents: the rows that they were last given, the tables wired from these, and the
-- host's tracked entries.
use Rattle.std.specs.Prelude.{◌≡◌, ◌+◌, ◌==◌, nat_lt, Bool, false, true, List, [], Option, None, Some, if◌then◌else◌, map}
use Rattle.std.specs.List.{filter}
use Rattle.net_addr.specs.Words.{Text, Version}
use Rattle.api_types.specs.Consistent.{IsConsistent}
use Rattle.api_types.specs.RowLists.{RowLists}
use Rattle.api_types.specs.Rows.{Fits, after}
use Rattle.api_types.specs.declared.change.Item.{Item}
use Rattle.plane_types.specs.Hosts.{Host}
use Rattle.plane_types.specs.Attached.{IsAttached, is_attached}
use Rattle.plane_types.specs.Realises.{Realises}
use Rattle.plane_types.specs.Room.{Room}
use Rattle.plane_types.specs.declared.ask.Heard.{Heard}
use Rattle.plane_types.specs.declared.ask.Heard.TheVariants.{Applied, Asleep, Gap, Old}
use Rattle.plane_types.specs.declared.entry.Entry.{Entry}
use Rattle.plane_types.specs.declared.table.TagRow.{TagRow}
use Rattle.plane_types.specs.declared.lists.TableLists.{TableLists}
use Rattle.plane_types.specs.TablesOfRows.{tables_of_rows}

pub record Agent : Type 0 where
  pub name : Text
  -- the version that is held, if any
  pub held : Option Version
  -- the version of the wired rows
  pub version : Version
  pub rows : RowLists
  pub tables : TableLists
  pub entries : List Entry

-- a host's agents in the memory that they have
pub record Node : Type 0 where
  pub agent : Agent
  pub spare : Room

abbrev pub agents_of : List Node → List Agent
agents_of nodes = map (λ (n : Node). n.agent) nodes

-- as frames see it, with these entries and with its own
abbrev pub host_with : Agent → List Entry → Host
host_with a entries = record { name = a.name; tables = a.tables; entries = entries }

abbrev pub host_of : Agent → Host
host_of a = host_with a a.entries

-- what is true between any two calls
pub record Stands (a : Agent) : Type 0 where
  pub consistent : IsConsistent a.rows
  pub realised : Realises a.rows a.name a.tables
  pub placed : IsAttached (host_of a)

-- given its first rows, at a version that it then holds
abbrev pub first_agent : RowLists → Version → Text → Agent
first_agent rows version name = record {
  name = name;
  held = Some version;
  version = version;
  rows = rows;
  tables = tables_of_rows rows name [];
  entries = [];
}

-- given the rows of a version: networks keep their tags, and entries without a tap or router in
-- the new tables go
abbrev pub after_resync : Version → RowLists → Agent → Agent
after_resync version rows a = record {
  name = a.name;
  held = Some version;
  version = version;
  rows = rows;
  tables = tables_of_rows rows a.name a.tables.tags;
  entries = filter (is_attached (tables_of_rows rows a.name a.tables.tags)) a.entries;
}

-- whether a number is the next one after what is held
abbrev pub follows : Version → Option Version → Bool
follows n None = false
follows n (Some v) = n == v + 1

-- what a host that holds this version, if any, makes of a change with a number
abbrev pub hearing : Version → Option Version → Heard
hearing n None = Asleep
hearing n (Some v) = if n == v + 1 then Applied n else (if nat_lt v n then Gap v else Old v)

-- told the change with a number: it is put into the wired rows where it is the next one
abbrev pub after_change : Version → List Item → Agent → Agent
after_change n c a = if follows n a.held then after_resync n (after a.rows c) a else a

-- a change that is the next one fits the wired rows and leaves consistent ones
abbrev pub CanFollow : Agent → Version → List Item → Type 0
CanFollow a n c = follows n a.held ≡ true → Fits a.rows c × IsConsistent (after a.rows c)

abbrev pub after_restart : Agent → Agent
after_restart a = record a { held = None }

abbrev pub with_entries : List Entry → Agent → Agent
with_entries entries a = record a { entries = entries }

abbrev pub after_forget : Agent → Agent
after_forget a = with_entries [] a

-- what a host would be given: rows, and the tables that it makes of them where its tags were these
pub record Ready : Type 0 where
  pub name : Text
  pub version : Version
  pub rows : RowLists
  pub tables : TableLists
  pub old : List TagRow

pub record IsReady (r : Ready) : Type 0 where
  pub consistent : IsConsistent r.rows
  pub realised : Realises r.rows r.name r.tables
  pub made : r.tables ≡ tables_of_rows r.rows r.name r.old

-- what a host would be given with the rows of a version
abbrev pub ready_for : Version → RowLists → Agent → Ready
ready_for version rows a = record {
  name = a.name;
  version = version;
  rows = rows;
  tables = tables_of_rows rows a.name a.tables.tags;
  old = a.tables.tags;
}
