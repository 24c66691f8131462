-- What `audit` does by its arguments: what it asks of the desk, what it writes, and with which
-- status it ends.
use Rattle.std.specs.Prelude.{◌≡◌, ◌⊎◌, ℕ, ◌≤◌, Bool, true, false, List, Option, Some, None, Result, Ok, Err, IfOk, ◌++◌, length, option_map}
use Rattle.std.specs.List.{list_all}
use Rattle.std.specs.Io.KnownBytes.{Appends}
use Rattle.net_addr.specs.Words.{Bytes}
use Rattle.api_types.specs.RowLists.{RowLists}
use Rattle.keeper_core.specs.Counts.{RoseBy}
use Rattle.keeper_core.specs.Desk.{AreNamed, Asks, DeskTold}
use Rattle.keeper_core.specs.Ends.{SinkTold}
use Rattle.keeper_core.specs.declared.ask.DeskAsk.TheVariants.{Settings}
use Rattle.keeper_core.specs.declared.refusal.OutsideRefusal.{OutsideRefusal}
use Rattle.keeper_core.specs.declared.refusal.OutsideRefusal.TheVariants as outside
use Rattle.net_settings.specs.Settings.{SettingsParts}
use Rattle.openings.specs.Openings.{AreBadSettings, AreBroken, IsUnopened, Opens, with_closing, with_opening}
use Rattle.openings.specs.declared.unopened.Unopened.TheVariants as unopened
use Rattle.reach_audit.specs.AuditLines.{holds, lines_of}
use Rattle.reach_audit.specs.Audits.{IsAuditOf, tables_of}
use Rattle.reach_audit.specs.declared.arguments.Arguments.{Arguments}
use Rattle.reach_audit.specs.declared.audit.Audit.{Audit}
use Rattle.reach_audit.specs.declared.status.Status.{Status}
use Rattle.reach_audit.specs.declared.status.Status.TheVariants.{BadSettings, BadWanted, Broken, Done, Failed, Inconsistent, OutOfMemory, WriteFault, WrongWords}
use Rattle.reach_sets.specs.Judged.{AreJudged}
use Rattle.reach_sets.specs.declared.judgement.Judgement.{Judgement}
use Rattle.wanted_files.specs.declared.wanted.WantedReach.{WantedReach}

-- ---- what is asked of the desk

-- Settings and store are opened, the store keeps these rows, which break no clause of consistency,
-- and it is closed again with them. Only then the wanted file is asked for, as settings are, and
-- this is given. Nothing else of the desk changes.
pub record AsksWanted {P : Type 0} (arguments : Arguments) (rows : RowLists)
    (given : Result Bytes OutsideRefusal) (old new : DeskTold P) : Type 0 where
  pub settings : SettingsParts
  pub opens : Opens arguments.opening settings rows old
  pub faults : ℕ
  pub later : old.faults ≤ faults
  pub counted : ℕ
  pub asks : Asks (Settings arguments.wanted) given
      (with_closing arguments.opening rows counted (with_opening arguments.opening faults old)) new
  pub named : IfOk given (AreNamed old.files arguments.wanted)

-- ---- why nothing is written

module _ {P : Type 0} where
  -- the rows and the bytes of a wanted file are there
  abbrev pub IsGiven : Arguments → RowLists → Bytes → DeskTold P → DeskTold P → Type 0
  IsGiven arguments rows bytes old new = AsksWanted arguments rows (Ok bytes) old new

  -- the desk refuses the wanted file
  abbrev pub IsRefused : OutsideRefusal → Arguments → DeskTold P → DeskTold P → Type 0
  IsRefused why arguments old new =
      (rows : RowLists) × AsksWanted arguments rows (Err why) old new

  -- Settings, store, rows and wanted file are looked at in this order, and the first that isn't
  -- good is the cause.
  abbrev pub IsUnaudited : Status → Arguments → DeskTold P → DeskTold P → Type 0
  IsUnaudited BadSettings arguments old new =
      IsUnopened unopened.BadSettings arguments.opening old new
  IsUnaudited Inconsistent arguments old new =
      IsUnopened unopened.Inconsistent arguments.opening old new
  IsUnaudited Failed arguments old new =
      IsUnopened unopened.Failed arguments.opening old new
      ⊎ IsRefused outside.Failed arguments old new
  IsUnaudited OutOfMemory arguments old new =
      IsUnopened unopened.OutOfMemory arguments.opening old new
      ⊎ IsRefused outside.OutOfMemory arguments old new
      ⊎ ((rows : RowLists) × (bytes : Bytes) × IsGiven arguments rows bytes old new)
  IsUnaudited BadWanted arguments old new =
      (rows : RowLists) × (bytes : Bytes) × IsGiven arguments rows bytes old new
      × (tables_of rows bytes ≡ None)
  IsUnaudited other arguments old new = ⊥

-- ---- what is written

-- all lines are written and flushed
pub record AllWritten (lines : Bytes) (old new : SinkTold) : Type 0 where
  pub wrote : Appends old.written new.written lines
  pub flushed : new.flushed ≡ option_map length new.written

-- a front of the lines is written, and nothing more is flushed
pub record FrontWritten (lines : Bytes) (old new : SinkTold) : Type 0 where
  pub front : Bytes
  pub back : Bytes
  pub parts : lines ≡ front ++ back
  pub wrote : Appends old.written new.written front
  pub flushed : new.flushed ≡ old.flushed

-- all lines are, and the status says whether each table holds; or a front of them
abbrev pub IsWritten : Bytes → Bool → Status → SinkTold → SinkTold → Type 0
IsWritten lines hold Done old new = (hold ≡ true) × AllWritten lines old new
IsWritten lines hold Broken old new = (hold ≡ false) × AllWritten lines old new
IsWritten lines hold WriteFault old new =
    FrontWritten lines old new × RoseBy 1 old.faults new.faults
IsWritten lines hold OutOfMemory old new = FrontWritten lines old new
IsWritten lines hold other old new = ⊥

-- the file says these tables, the rows have what they name, each is judged, and the lines say so
pub record IsAudited {P : Type 0} (arguments : Arguments) (status : Status)
    (old new : DeskTold P) (before after : SinkTold) : Type 0 where
  pub rows : RowLists
  pub bytes : Bytes
  pub given : AsksWanted arguments rows (Ok bytes) old new
  pub wanted : List WantedReach
  pub tables : tables_of rows bytes ≡ Some wanted
  pub judged : List Judgement
  pub right : AreJudged rows wanted judged
  pub written : IsWritten (lines_of wanted judged) (list_all holds judged) status before after

-- what is to be written: what an audit of these rows by these bytes says
pub record IsToldBy {P : Type 0} (arguments : Arguments) (audit : Audit) (old new : DeskTold P)
    : Type 0 where
  pub rows : RowLists
  pub bytes : Bytes
  pub given : AsksWanted arguments rows (Ok bytes) old new
  pub wanted : List WantedReach
  pub tables : tables_of rows bytes ≡ Some wanted
  pub says : IsAuditOf rows wanted audit

-- ---- the command

module _ {D O P : Type 0} (desk : D → DeskTold P) (output : O → SinkTold) where
  -- nothing is written, or lines are
  abbrev pub RunsArguments : Arguments → Status → D → D → O → O → Type 0
  RunsArguments arguments status old new before after =
      (IsUnaudited status arguments (desk old) (desk new) × (after ≡ before))
      ⊎ IsAudited arguments status (desk old) (desk new) (output before) (output after)

  -- Without arguments of `audit` nothing is touched; with them memory may run out before anything
  -- is.
  abbrev pub RunsAudit : Option Arguments → Status → D → D → O → O → Type 0
  RunsAudit None status old new before after =
      ((status ≡ WrongWords) ⊎ (status ≡ OutOfMemory)) × (new ≡ old) × (after ≡ before)
  RunsAudit (Some arguments) status old new before after =
      ((status ≡ OutOfMemory) × (new ≡ old) × (after ≡ before))
      ⊎ RunsArguments arguments status old new before after

-- ---- what a status tells

module _ {P : Type 0} where
  -- the bytes of the named settings spell none
  abbrev pub HasBadSettings : Option Arguments → DeskTold P → Type 0
  HasBadSettings None old = ⊥
  HasBadSettings (Some arguments) old = AreBadSettings old.files arguments.opening.settings

  -- the rows that the named store keeps break a clause of consistency
  abbrev pub HasBrokenRows : Option Arguments → DeskTold P → Type 0
  HasBrokenRows None old = ⊥
  HasBrokenRows (Some arguments) old = AreBroken arguments.opening old

  -- the bytes of the wanted file are none, or name what the rows of the store haven't
  pub record IsBadWanted (arguments : Arguments) (old : DeskTold P) : Type 0 where
    pub settings : SettingsParts
    pub rows : RowLists
    pub opens : Opens arguments.opening settings rows old
    pub bytes : Bytes
    pub named : AreNamed old.files arguments.wanted bytes
    pub bad : tables_of rows bytes ≡ None

  abbrev pub HasBadWanted : Option Arguments → DeskTold P → Type 0
  HasBadWanted None old = ⊥
  HasBadWanted (Some arguments) old = IsBadWanted arguments old
