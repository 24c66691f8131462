-- What the program does by its arguments.
use Rattle.std.specs.Prelude.{◌≡◌, ◌⊎◌, ℕ, ◌^◌, ◌≤◌, Bool, true, false, Option, Some, None, is_some}
use Rattle.net_addr.specs.Words.{Text}
use Rattle.http_session.specs.Serves.{scene}
use Rattle.http_session.specs.declared.session_end.SessionEnd.{SessionEnd}
use Rattle.api_types.specs.RowLists.{RowLists}
use Rattle.command_lines.specs.declared.line.Delivery.{Delivery}
use Rattle.command_lines.specs.declared.line.Delivery.TheVariants.{Automatic, Manual}
use Rattle.command_lines.specs.declared.line.Opening.{Opening}
use Rattle.command_lines.specs.declared.line.Line.{Line}
use Rattle.command_lines.specs.declared.line.Line.TheVariants.{Session, Serve, Drill}
use Rattle.keeper_core.specs.Counts.{RoseBy}
use Rattle.keeper_core.specs.Desk.{DeskTold}
use Rattle.keeper_core.specs.Ends.{SinkTold, SourceTold}
use Rattle.keeper_core.specs.Kept.{KeeperTold}
use Rattle.net_settings.specs.Settings.{SettingsParts}
use Rattle.openings.specs.Openings.{AreBadSettings, AreBroken, DeskRose, IsUnopened, Opens, with_closing, with_opening}
use Rattle.openings.specs.declared.unopened.Unopened.{Unopened}
use Rattle.world_laws.specs.World.{World, first_world}
use Rattle.neutron_serve.specs.Connections.{Carried, Listens, carried}
use Rattle.neutron_serve.specs.Drills.{RunsDrill}
use Rattle.neutron_serve.specs.Promises.{Promises}
use Rattle.neutron_serve.specs.Status.{ended_status, unopened_status}
use Rattle.neutron_serve.specs.declared.status.Status.{Status}
use Rattle.neutron_serve.specs.declared.status.Status.TheVariants.{OutOfMemory, WrongWords}

-- ---- what is opened

-- the settings, the store and the delivery that a command line names
abbrev pub opening_in : Line → Option Opening
opening_in (Session opening) = Some opening
opening_in (Serve opening address connections) = Some opening
opening_in (Drill start size replies) = None

abbrev pub opening_of : Option Line → Option Opening
opening_of None = None
opening_of (Some line) = opening_in line

abbrev pub is_manual : Delivery → Bool
is_manual Automatic = false
is_manual Manual = true

-- what is opened listens, connections are served over it, and the store is closed with the rows of
-- the last world
pub record ServesOpened {I O : Type 0} (input : I → SourceTold) (output : O → SinkTold)
    (opening : Opening) (address : Text) (most : ℕ) (status : Status) (old new : DeskTold (I × O))
    : Type 0 where
  pub settings : SettingsParts
  pub rows : RowLists
  pub opens : Opens opening settings rows old
  pub store : KeeperTold
  pub faults : ℕ
  pub later : old.faults ≤ faults
  pub last : Carried (I × O)
  pub listens : Listens input output address most status
      (carried (first_world settings (is_manual opening.delivery) rows) store
      (with_opening opening faults old)) last
  pub closed : new ≡ with_closing opening last.world.history.rows last.store.faults last.desk

-- nothing is opened and no connection is asked for, or connections are served
abbrev pub RunsServe : {I O : Type 0} → (I → SourceTold) → (O → SinkTold) → Opening → Text → ℕ
    → Status → DeskTold (I × O) → DeskTold (I × O) → Type 0
RunsServe input output opening address most status old new =
    ((why : Unopened) × (status ≡ unopened_status why) × IsUnopened why opening old new)
    ⊎ ServesOpened input output opening address most status old new

-- ---- the program

-- what a run works with: a desk, an input and an output
pub record Outside (D I O : Type 0) : Type 0 where
  pub desk : D
  pub input : I
  pub output : O

abbrev pub outside : {D I O : Type 0} → D → I → O → Outside D I O
outside desk input output = record { desk = desk; input = input; output = output }

module _ {D I O : Type 0} (desk : D → DeskTold (I × O)) (input : I → SourceTold)
    (output : O → SinkTold) where
  -- a session of at most 2^40 bytes over what is opened, after which the store is closed with the
  -- rows of its last world
  pub record SessionOpened (opening : Opening) (end : SessionEnd) (old new : Outside D I O)
      : Type 0 where
    pub settings : SettingsParts
    pub rows : RowLists
    pub opens : Opens opening settings rows (desk old.desk)
    pub store : KeeperTold
    pub world : World
    pub after : KeeperTold
    pub promises : Promises (2 ^ 40)
        (scene (first_world settings (is_manual opening.delivery) rows) store (input old.input)
        (output old.output))
        (scene world after (input new.input) (output new.output)) end
    pub closed : desk new.desk
        ≡ with_closing opening world.history.rows after.faults
        (with_opening opening (desk new.desk).faults (desk old.desk))

  -- nothing is opened, and the input and the output are as they were
  abbrev pub IsRefused : Opening → Status → Outside D I O → Outside D I O → Type 0
  IsRefused opening status old new =
      (why : Unopened) × (status ≡ unopened_status why)
      × IsUnopened why opening (desk old.desk) (desk new.desk) × (new.input ≡ old.input)
      × (new.output ≡ old.output)

  -- what the program does by a command line
  abbrev pub RunsLine : Line → Status → Outside D I O → Outside D I O → Type 0
  RunsLine (Session opening) status old new =
      IsRefused opening status old new
      ⊎ ((end : SessionEnd) × (status ≡ ended_status end) × SessionOpened opening end old new)
  RunsLine (Serve opening address most) status old new =
      RunsServe input output opening address most status (desk old.desk) (desk new.desk)
      × (new.input ≡ old.input) × (new.output ≡ old.output)
  RunsLine (Drill start size replies) status old new =
      RunsDrill start size replies status (output old.output) (output new.output)
      × (new.desk ≡ old.desk) × (new.input ≡ old.input)

  -- without one it touches nothing; with one, memory may run out before anything is touched
  abbrev pub Runs : Option Line → Status → Outside D I O → Outside D I O → Type 0
  Runs None status old new = ((status ≡ WrongWords) ⊎ (status ≡ OutOfMemory)) × (new ≡ old)
  Runs (Some line) status old new =
      ((status ≡ OutOfMemory) × (new ≡ old)) ⊎ RunsLine line status old new

-- ---- what a status tells

-- the settings that the arguments name are none
abbrev pub HasBadSettings : {P : Type 0} → Option Opening → DeskTold P → Type 0
HasBadSettings None old = ⊥
HasBadSettings (Some opening) old = AreBadSettings old.files opening.settings

-- the rows that the named store keeps break a clause of consistency
abbrev pub HasBrokenRows : {P : Type 0} → Option Opening → DeskTold P → Type 0
HasBrokenRows None old = ⊥
HasBrokenRows (Some opening) old = AreBroken opening old

abbrev pub is_session_in : Line → Bool
is_session_in (Session opening) = true
is_session_in (Serve opening address connections) = false
is_session_in (Drill start size replies) = false

abbrev pub is_session_line : Option Line → Bool
is_session_line None = false
is_session_line (Some line) = is_session_in line

-- the arguments are a command line, the settings and the rows that it names are good, and no object
-- that was handed in or opened counts a failure
pub record IsSound {D I O : Type 0} (desk : D → DeskTold (I × O)) (input : I → SourceTold)
    (output : O → SinkTold) (line : Option Line) (old new : Outside D I O) : Type 0 where
  pub is_line : is_some line ≡ true
  pub settings : HasBadSettings (opening_of line) (desk old.desk) → ⊥
  pub rows : HasBrokenRows (opening_of line) (desk old.desk) → ⊥
  pub stands : DeskRose (desk old.desk) (desk new.desk) → ⊥
  pub reads : RoseBy 1 (input old.input).faults (input new.input).faults → ⊥
  pub writes : RoseBy 1 (output old.output).faults (output new.output).faults → ⊥

-- all was done, memory ran out, or a session read all the bytes that it may
abbrev pub EndsWell : Option Line → ℕ → Type 0
EndsWell line n = (n ≡ 0) ⊎ (n ≡ 4) ⊎ ((n ≡ 8) × (is_session_line line ≡ true))
