-- What `agent` does by its arguments: what it asks of the desk and over the links, what it writes,
-- and with which status it ends.
use Rattle.std.specs.Prelude.{◌≡◌, ◌≢◌, ◌⊎◌, ℕ, ◌+◌, ◌≤◌, List, [], ◌∷◌, ◌++◌, codes, decimal, length, Option, None, Some, option_and_then, option_map}
use Rattle.std.specs.Io.KnownBytes.{Appends}
use Rattle.net_addr.specs.Words.{Bytes, Text, Version}
use Rattle.api_types.specs.Lists.{Each}
use Rattle.net_settings.specs.Settings.{SettingsParts}
use Rattle.command_lines.specs.declared.line.AgentLine.{AgentLine}
use Rattle.keeper_core.specs.Counts.{RoseBy}
use Rattle.keeper_core.specs.Desk.{DeskTold}
use Rattle.keeper_core.specs.Ends.{SinkTold, SourceTold}
use Rattle.openings.specs.Openings.{AreBadSettings, AreSettings, EndsAtSettings, settings_asks, with_asks}
use Rattle.openings.specs.declared.unopened.Unopened.{Unopened}
use Rattle.wire_types.specs.declared.step.WireStep.{WireStep}
use Rattle.wire_types.specs.declared.step.WireStep.TheVariants as step
use Rattle.wire_laws.specs.Promises.{held_by}
use Rattle.wire_laws.specs.WireStates.{Lost, ask_of}
use Rattle.wire_replies.specs.Requests.{request_bytes}
use Rattle.agent_links.specs.Links.{LinkTold}
use Rattle.agent_wire.specs.HostAgents.{HostAgent}
use Rattle.agent_run.specs.Rounds as rounds
use Rattle.agent_run.specs.Rounds.{LinkUse, PassLinks, Round, links_if, links_of}
use Rattle.agent_run.specs.Status.{unopened_status}
use Rattle.agent_run.specs.declared.status.Status.{Status}
use Rattle.agent_run.specs.declared.status.Status.TheVariants.{BadReply, BadRows, Done, OutOfMemory, WriteFault, WrongWords}

-- ---- rounds

-- the status by what was said of a reply, if it is bad
abbrev pub status_by : WireStep → Option Status
status_by step.BadReply = Some BadReply
status_by step.BadRows = Some BadRows
status_by _ = None

-- what was said is not bad
abbrev pub IsGood : Option WireStep → Type 0
IsGood said = option_and_then status_by said ≡ None

-- the last reply was bad, and the earlier ones weren't
pub record EndsBad (status : Status) (said : List (Option WireStep)) : Type 0 where
  pub earlier : List (Option WireStep)
  pub last : WireStep
  pub are : said ≡ earlier ++ Some last ∷ []
  pub good : Each IsGood earlier
  pub bad : status_by last ≡ Some status

-- ---- the line that is written

abbrev pub held_line : Option Version → Text
held_line None = codes "held none" ++ 10 ∷ []
held_line (Some version) = codes "held " ++ decimal version ++ 10 ∷ []

-- all of it is written and flushed
pub record AllWritten (line : Bytes) (old new : SinkTold) : Type 0 where
  pub wrote : Appends old.written new.written line
  pub flushed : new.flushed ≡ option_map length new.written

-- a front of it is written, and nothing more is flushed
pub record FrontWritten (line : Bytes) (old new : SinkTold) : Type 0 where
  pub front : Bytes
  pub back : Bytes
  pub parts : line ≡ front ++ back
  pub wrote : Appends old.written new.written front
  pub flushed : new.flushed ≡ old.flushed

-- all of the line is, or a front of it
abbrev pub WritesLine : Bytes → Status → SinkTold → SinkTold → Type 0
WritesLine line Done old new = AllWritten line old new
WritesLine line WriteFault old new = FrontWritten line old new × RoseBy 1 old.faults new.faults
WritesLine line OutOfMemory old new = FrontWritten line old new
WritesLine line other old new = ⊥

-- ---- the whole run

-- what a run works with: a desk, links and an output
pub record Outside (D L O : Type 0) : Type 0 where
  pub desk : D
  pub link : L
  pub output : O

abbrev pub outside : {D L O : Type 0} → D → L → O → Outside D L O
outside desk link output = record { desk = desk; link = link; output = output }

-- an agent that holds nothing yet
abbrev pub first_host : AgentLine → SettingsParts → HostAgent
first_host line settings = record { host = line.host; settings = settings; state = Lost }

-- the settings were asked for, if they are named, and nothing else
abbrev pub with_settings : {P : Type 0} → AgentLine → ℕ → DeskTold P → DeskTold P
with_settings line faults desk = record desk {
  asks = with_asks (settings_asks line.opening.settings) desk.asks;
  faults = faults;
}

module _ {I O : Type 0} (input : I → SourceTold) (output : O → SinkTold) where
  -- why no further round is run: there were so many, a reply was bad, or memory ran out
  abbrev pub AreOver : Status → ℕ → List (Round (I × O)) → List (Option WireStep) → HostAgent
      → Option (LinkUse (I × O)) → Type 0
  AreOver status most made said last wanting =
      ((status ≡ Done) × (length made ≡ most) × Each IsGood said × (wanting ≡ None))
      ⊎ ((EndsBad status said × (wanting ≡ None))
      ⊎ ((status ≡ OutOfMemory) × Each IsGood said
      × rounds.IsWanting input output (request_bytes (ask_of last.state)) wanting))

  -- at most so many rounds, from an agent to what becomes of it
  pub record RunsRounds (status : Status) (most : ℕ) (address : Text) (first : HostAgent)
      (old new : LinkTold (I × O)) (last : HostAgent) : Type 0 where
    pub made : List (Round (I × O))
    pub said : List (Option WireStep)
    -- the link of a round in which memory ran out, if one was opened
    pub wanting : Option (LinkUse (I × O))
    pub few : length made + length (links_if wanting) ≤ most
    pub are : rounds.AreRounds input output first made said last
    pub passes : PassLinks address (links_of made ++ links_if wanting)
        (rounds.faults_of input output made + rounds.faults_if input output wanting) old new
    pub over : AreOver status most made said last wanting

module _ {L O I Q : Type 0} (link : L → LinkTold (I × Q)) (input : I → SourceTold)
    (sent : Q → SinkTold) (output : O → SinkTold) where
  -- the rounds of a line from an agent
  abbrev pub RunsFrom : AgentLine → HostAgent → Status → L → L → HostAgent → Type 0
  RunsFrom line first status old new last =
      RunsRounds input sent status line.rounds line.connect first (link old) (link new) last

  -- all rounds are made and the line of the last state is written, or they end before and nothing
  -- is
  abbrev pub IsFollowed : AgentLine → HostAgent → Status → L → L → O → O → Type 0
  IsFollowed line first status old new before after =
      (last : HostAgent)
      × ((RunsFrom line first Done old new last
      × WritesLine (held_line (held_by last.state)) status (output before) (output after))
      ⊎ ((status ≢ Done) × RunsFrom line first status old new last × (after ≡ before)))

module _ {D L O A I Q : Type 0} (desk : D → DeskTold A) (link : L → LinkTold (I × Q))
    (input : I → SourceTold) (sent : Q → SinkTold) (output : O → SinkTold) where
  -- there are no settings, and the links and the output are as they were
  abbrev pub IsRefused : AgentLine → Status → Outside D L O → Outside D L O → Type 0
  IsRefused line status old new =
      (why : Unopened) × (status ≡ unopened_status why)
      × EndsAtSettings why line.opening (desk old.desk) (desk new.desk)
      × (new.link ≡ old.link) × (new.output ≡ old.output)

  -- under the settings that are named; of the desk nothing is asked but these
  pub record Follows (line : AgentLine) (status : Status) (old new : Outside D L O)
      : Type 0 where
    pub settings : SettingsParts
    pub spelled : AreSettings (desk old.desk).files line.opening.settings settings
    pub asked : desk new.desk ≡ with_settings line (desk new.desk).faults (desk old.desk)
    pub is : IsFollowed link input sent output line (first_host line settings) status old.link
        new.link old.output new.output

  abbrev pub RunsLine : AgentLine → Status → Outside D L O → Outside D L O → Type 0
  RunsLine line status old new = IsRefused line status old new ⊎ Follows line status old new

  -- without arguments of `agent` nothing is touched; with them memory may run out before anything
  -- is
  abbrev pub Runs : Option AgentLine → Status → Outside D L O → Outside D L O → Type 0
  Runs None status old new = ((status ≡ WrongWords) ⊎ (status ≡ OutOfMemory)) × (new ≡ old)
  Runs (Some line) status old new =
      ((status ≡ OutOfMemory) × (new ≡ old)) ⊎ RunsLine line status old new

-- ---- what a status tells

-- the bytes of the named settings spell none
abbrev pub HasBadSettings : {P : Type 0} → Option AgentLine → DeskTold P → Type 0
HasBadSettings None old = ⊥
HasBadSettings (Some line) old = AreBadSettings old.files line.opening.settings
