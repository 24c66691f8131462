-- What the command does by its arguments.
use Rattle.std.specs.Prelude.{None, Option, Some, ℕ, ◌≡◌, ◌⊎◌}
use Rattle.api_types.specs.RowLists.{RowLists}
use Rattle.command_lines.specs.declared.line.Opening.{Opening}
use Rattle.dvr_run.specs.Answers.{Answers, names_of, replies}
use Rattle.dvr_run.specs.Status.{unopened_status}
use Rattle.dvr_run.specs.declared.status.Status.{Status}
use Rattle.dvr_run.specs.declared.status.Status.TheVariants.{OutOfMemory, WrongWords}
use Rattle.keeper_core.specs.Desk.{DeskTold}
use Rattle.keeper_core.specs.Ends.{SinkTold, SourceTold}
use Rattle.net_settings.specs.Settings.{SettingsParts}
use Rattle.openings.specs.Openings.{AreBadSettings, AreBroken, IsUnopened, Opens, with_closing, with_opening}
use Rattle.openings.specs.declared.unopened.Unopened.{Unopened}

-- what a run works with: a desk, an input and an output
pub record Outside (D I O : Type 0) : Type 0 where
  pub desk : D
  pub input : I
  pub output : O

abbrev pub outside : {D I O : Type 0} → D → I → O → Outside D I O
outside desk input output = record { desk = desk; input = input; output = output }

module _ {D I O : Type 0} (desk : D → DeskTold (I × O)) (input : I → SourceTold)
    (output : O → SinkTold) where
  -- nothing is opened, and the input and the output are as they were
  abbrev pub IsRefused : Opening → Status → Outside D I O → Outside D I O → Type 0
  IsRefused opening status old new =
      (why : Unopened) × (status ≡ unopened_status why)
      × IsUnopened why opening (desk old.desk) (desk new.desk) × (new.input ≡ old.input)
      × (new.output ≡ old.output)

  -- the settings and the rows are opened, and the input is answered by them. Of the desk nothing is
  -- asked but these, and the store is closed with the rows that it had
  pub record AnswersOpened (opening : Opening) (status : Status) (old new : Outside D I O)
      : Type 0 where
    pub settings : SettingsParts
    pub rows : RowLists
    pub counted : ℕ
    pub opens : Opens opening settings rows (desk old.desk)
    pub answers : Answers rows (replies rows (names_of settings.hosts)) status (input old.input)
        (output old.output) (input new.input) (output new.output)
    pub closed : desk new.desk
        ≡ with_closing opening rows counted
        (with_opening opening (desk new.desk).faults (desk old.desk))

  -- nothing is opened, or the input is answered by what is
  abbrev pub RunsOpening : Opening → Status → Outside D I O → Outside D I O → Type 0
  RunsOpening opening status old new =
      IsRefused opening status old new ⊎ AnswersOpened opening status old new

  -- without the words of the command it touches nothing; with them, memory may run out before
  -- anything is touched
  abbrev pub Runs : Option Opening → Status → Outside D I O → Outside D I O → Type 0
  Runs None status old new = ((status ≡ WrongWords) ⊎ (status ≡ OutOfMemory)) × (new ≡ old)
  Runs (Some opening) status old new =
      ((status ≡ OutOfMemory) × (new ≡ old)) ⊎ RunsOpening opening status old new

-- the settings that the words name are none
abbrev pub HasBadSettings : {P : Type 0} → Option Opening → DeskTold P → Type 0
HasBadSettings None old = ⊥
HasBadSettings (Some opening) old = AreBadSettings old.files opening.settings

-- the rows that the named store keeps break a clause of consistency
abbrev pub HasBrokenRows : {P : Type 0} → Option Opening → DeskTold P → Type 0
HasBrokenRows None old = ⊥
HasBrokenRows (Some opening) old = AreBroken opening old
