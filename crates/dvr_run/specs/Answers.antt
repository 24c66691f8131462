-- What an input is answered with, by the rows, and why it ends.
use Rattle.std.specs.Prelude.{List, None, [], false, flat_map, length, map, true, ℕ, ◌++◌, ◌<◌, ◌^◌, ◌∷◌, ◌≡◌, ◌≤◌, ◌⊎◌, ⊤}
use Rattle.std.specs.Io.KnownBytes.{Appends, Consumes}
use Rattle.api_types.specs.RowLists.{RowLists}
use Rattle.dvr_run.specs.Events.{AskFor, event_of_line}
use Rattle.dvr_run.specs.Lines.{is_unbroken, joined, with_feed}
use Rattle.dvr_run.specs.Status.{is_read_fault, is_whole}
use Rattle.dvr_run.specs.declared.status.Status.{Status}
use Rattle.dvr_run.specs.declared.status.Status.TheVariants.{BadLine, Budget, Done, OutOfMemory, ReadFault, WriteFault}
use Rattle.dvr_types.specs.DvrVerdicts.{DvrMeaning, dvr_meanings}
use Rattle.http_session.specs.Serves.{HasEnded, IsFlushed}
use Rattle.json_replies.specs.Bodies.{handled_tree}
use Rattle.json_trees.specs.Printed.{tree_data}
use Rattle.keeper_core.specs.Ends.{SinkTold, SourceTold, has_failed}
use Rattle.net_addr.specs.Words.{Bytes, Text}
use Rattle.net_settings.specs.declared.settings.Host.{Host}
use Rattle.plane_types.specs.Verdicts.{verdict_of_fate}
use Rattle.plane_types.specs.declared.event.Event.{Event}
use Rattle.serde_json.specs.Written.{compact_text}

-- ---- what is written

-- the names of the settings' hosts, in their order
abbrev pub names_of : List Host → List Text
names_of hosts = map (λ (h : Host). h.name) hosts

-- the line for an event: the hosts that handle it, and its verdict
abbrev pub reply_line : DvrMeaning → Bytes
reply_line m = with_feed (compact_text (tree_data (handled_tree m.hosts (verdict_of_fate m.fate))))

-- the lines for events, one after the other, by the rows alone: each sees the entries that the
-- earlier ones made, and the first one none
abbrev pub replies : RowLists → List Text → List Event → Bytes
replies rows names events = flat_map reply_line (dvr_meanings rows [] names events)

-- a front of these bytes is written, and nothing else
abbrev pub IsFront : Bytes → SinkTold → SinkTold → Type 0
IsFront reply old new =
    (front : Bytes) × (back : Bytes) × (reply ≡ front ++ back)
    × Appends old.written new.written front

-- all of them, unless a write failed or memory ran out
abbrev pub IsWritten : Status → Bytes → SinkTold → SinkTold → Type 0
IsWritten WriteFault reply old new = IsFront reply old new
IsWritten OutOfMemory reply old new = IsFront reply old new
IsWritten other reply old new = Appends old.written new.written reply

-- ---- why it ends

-- a whole line that asks for no event of the rows
abbrev pub IsBadLine : RowLists → Bytes → Type 0
IsBadLine rows rest =
    (line : Bytes) × (after : Bytes) × (rest ≡ line ++ 10 ∷ after) × (is_unbroken line ≡ true)
    × (event_of_line rows line ≡ None)

-- bytes that become no line: they are too many, or the input ends in them
abbrev pub IsUnfinished : Bytes → SourceTold → Type 0
IsUnfinished rest input = (is_unbroken rest ≡ true)
    × ((65536 < length rest) ⊎ ((0 < length rest) × HasEnded input))

-- bytes that may become one
abbrev pub IsWaiting : Bytes → Type 0
IsWaiting rest = (is_unbroken rest ≡ true) × (length rest ≤ 65536)

-- by what was read after the lines that were answered, and how many bytes were read
abbrev pub IsEnd : RowLists → Bytes → ℕ → SourceTold → Status → Type 0
IsEnd rows rest taken input Done = (rest ≡ []) × HasEnded input
IsEnd rows rest taken input BadLine = IsBadLine rows rest ⊎ IsUnfinished rest input
IsEnd rows rest taken input ReadFault = IsWaiting rest
IsEnd rows rest taken input Budget = IsWaiting rest × (taken ≡ 2 ^ 40)
IsEnd rows rest taken input WriteFault = ⊤
IsEnd rows rest taken input OutOfMemory = ⊤
IsEnd rows rest taken input other = ⊥

-- lines are read, and their events are answered by what `reply` gives, until it ends
pub record Stops (rows : RowLists) (reply : List Event → Bytes) (status : Status)
    (input : SourceTold) (output : SinkTold) (input_new : SourceTold) (output_new : SinkTold)
    : Type 0 where
  pub lines : List Bytes
  pub rest : Bytes
  pub events : List Event
  pub ask : AskFor rows lines events
  pub read : Consumes input.left input_new.left (joined lines ++ rest)
  pub within : length (joined lines ++ rest) ≤ 2 ^ 40
  pub wrote : IsWritten status (reply events) output output_new
  pub ends : IsEnd rows rest (length (joined lines ++ rest)) input_new status

-- all that is written is flushed, where each line is answered; and a run ends for a read exactly if
-- its last read failed
pub record Answers (rows : RowLists) (reply : List Event → Bytes) (status : Status)
    (input : SourceTold) (output : SinkTold) (input_new : SourceTold) (output_new : SinkTold)
    : Type 0 where
  pub stops : Stops rows reply status input output input_new output_new
  pub flushed : is_whole status ≡ true → IsFlushed output_new
  pub last_read : has_failed input ≡ false → has_failed input_new ≡ is_read_fault status
