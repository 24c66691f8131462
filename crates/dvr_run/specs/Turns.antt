-- One line after the other, by the hosts.
use Rattle.std.specs.Prelude.{Bool, List, None, Option, Some, [], false, flat_map, length, ℕ, ◌++◌, ◌≡◌}
use Rattle.std.specs.Io.KnownBytes.{Appends, Consumes}
use Rattle.api_types.specs.RowLists.{RowLists}
use Rattle.dvr_fabric.specs.Meaning.{hosts_after_events}
use Rattle.dvr_run.specs.Answers.{IsFront, Stops, reply_line}
use Rattle.dvr_run.specs.Events.{AskFor, event_of}
use Rattle.dvr_run.specs.Lines.{joined}
use Rattle.dvr_run.specs.Status.{is_read_fault}
use Rattle.dvr_run.specs.declared.status.Status.{Status}
use Rattle.dvr_run.specs.declared.status.Status.TheVariants.{BadLine, OutOfMemory, WriteFault}
use Rattle.dvr_run.specs.declared.turn.Turn.{Turn}
use Rattle.dvr_run.specs.declared.turn.Turn.TheVariants.{Again, Ends}
use Rattle.dvr_types.specs.DvrFabric.{DvrHost, dvr_fate}
use Rattle.dvr_types.specs.DvrVerdicts.{dvr_hosts_after, dvr_meant, dvr_meants}
use Rattle.keeper_core.specs.Ends.{SinkTold, SourceTold}
use Rattle.net_addr.specs.Words.{Bytes}
use Rattle.plane_types.specs.declared.event.Event.{Event}

-- the line for an event at these hosts, and the lines for events, one after the other
abbrev pub reply_of : List DvrHost → Event → Bytes
reply_of hosts event = reply_line (dvr_meant (dvr_fate hosts event))

abbrev pub replies_of : List DvrHost → List Event → Bytes
replies_of hosts events = flat_map reply_line (dvr_meants hosts events)

abbrev pub reply_if : List DvrHost → Option Event → Bytes
reply_if hosts None = []
reply_if hosts (Some event) = reply_of hosts event

-- a line is answered, and each host keeps what it made
pub record IsAnswered (rows : RowLists) (line : Bytes) (hosts hosts_new : List DvrHost)
    (output output_new : SinkTold) : Type 0 where
  pub event : Event
  pub asked : event_of rows line ≡ Some event
  pub kept : hosts_new ≡ dvr_hosts_after hosts event
  pub wrote : Appends output.written output_new.written (reply_of hosts event)

-- or it is bad, or a front of its answer is written
abbrev pub IsCut : RowLists → Bytes → List DvrHost → SinkTold → SinkTold → Status → Type 0
IsCut rows line hosts old new BadLine = (event_of rows line ≡ None) × (new ≡ old)
IsCut rows line hosts old new WriteFault = IsFront (reply_if hosts (event_of rows line)) old new
IsCut rows line hosts old new OutOfMemory = IsFront (reply_if hosts (event_of rows line)) old new
IsCut rows line hosts old new other = ⊥

-- what came of a line that is written, and of an event
abbrev pub IsLineSent : Bytes → SinkTold → SinkTold → Turn → Type 0
IsLineSent line old new Again = Appends old.written new.written line
IsLineSent line old new (Ends WriteFault) = IsFront line old new
IsLineSent line old new (Ends OutOfMemory) = IsFront line old new
IsLineSent line old new (Ends other) = ⊥

abbrev pub IsEventTurn : Event → List DvrHost → List DvrHost → SinkTold → SinkTold → Turn → Type 0
IsEventTurn event hosts hosts_new old new Again =
    (hosts_new ≡ dvr_hosts_after hosts event)
    × Appends old.written new.written (reply_of hosts event)
IsEventTurn event hosts hosts_new old new (Ends WriteFault) = IsFront (reply_of hosts event) old new
IsEventTurn event hosts hosts_new old new (Ends OutOfMemory) =
    IsFront (reply_of hosts event) old new
IsEventTurn event hosts hosts_new old new (Ends other) = ⊥

abbrev pub IsTurn : RowLists → Bytes → List DvrHost → List DvrHost → SinkTold → SinkTold → Turn
    → Type 0
IsTurn rows line hosts hosts_new old new Again = IsAnswered rows line hosts hosts_new old new
IsTurn rows line hosts hosts_new old new (Ends status) = IsCut rows line hosts old new status

-- lines that are answered so far, from the hosts at the start; these bytes are read after them, and
-- so many in all
pub record Goes (rows : RowLists) (start hosts : List DvrHost) (pending : Bytes) (taken : ℕ)
    (input : SourceTold) (output : SinkTold) (input_new : SourceTold) (output_new : SinkTold)
    : Type 0 where
  pub lines : List Bytes
  pub events : List Event
  pub ask : AskFor rows lines events
  pub after : hosts ≡ hosts_after_events start events
  pub read : Consumes input.left input_new.left (joined lines ++ pending)
  pub count : taken ≡ length (joined lines ++ pending)
  pub wrote : Appends output.written output_new.written (replies_of start events)

-- it goes on, or ends
abbrev pub Follows : RowLists → List DvrHost → List DvrHost → Bytes → ℕ → SourceTold → SinkTold
    → SourceTold → SinkTold → Turn → Type 0
Follows rows start hosts pending taken input output input_new output_new Again =
    Goes rows start hosts pending taken input output input_new output_new
Follows rows start hosts pending taken input output input_new output_new (Ends status) =
    Stops rows (replies_of start) status input output input_new output_new

-- whether the turn ends for a read that failed
abbrev pub ends_by_read : Turn → Bool
ends_by_read Again = false
ends_by_read (Ends status) = is_read_fault status
