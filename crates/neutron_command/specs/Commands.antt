-- What the program does: by its first argument, events answered at hosts that route, an audit of a
-- store, a host's agents that follow a server, or a command of the server.
use Rattle.std.specs.Prelude.{◌≡◌, ℕ, Bool, true, false, List, [], ◌∷◌, codes, if◌then◌else◌, is_some}
use Rattle.std.specs.Str.{bytes_eq}
use Rattle.net_addr.specs.Words.{Text}
use Rattle.agent_links.specs.Links.{LinkTold}
use Rattle.agent_run.specs.Runs as agent
use Rattle.agent_run.specs.Status.{status_code as agent_code}
use Rattle.command_lines.specs.Lines.{agent_line_of, line_of}
use Rattle.dvr_run.specs.Runs as dvr
use Rattle.dvr_run.specs.Status.{status_code as dvr_code}
use Rattle.dvr_run.specs.Words.{opening_given}
use Rattle.keeper_core.specs.Desk.{DeskTold}
use Rattle.keeper_core.specs.Ends.{SinkTold, SourceTold}
use Rattle.neutron_command.specs.declared.named.Named.{Named}
use Rattle.neutron_command.specs.declared.named.Named.TheVariants.{Agent, Audit, Dvr, Server}
use Rattle.neutron_serve.specs.Runs as server
use Rattle.neutron_serve.specs.Status.{status_code as server_code}
use Rattle.reach_audit.specs.Arguments.{arguments_of}
use Rattle.reach_audit.specs.Runs as audit
use Rattle.reach_audit.specs.Status.{status_code as audit_code}

-- this is the first word
abbrev pub is_first : Text → List Text → Bool
is_first command [] = false
is_first command (word ∷ words) = bytes_eq word command

-- whose command the words name; all that is no other's goes to the server
abbrev pub named_by : List Text → Named
named_by words =
    if is_first (codes "dvr") words then Dvr
    else if is_first (codes "audit") words then Audit
    else if is_first (codes "agent") words then Agent
    else Server

-- ---- what is done

-- what a command works with: a desk, links to a server, an input and an output
pub record Ends (D L I O : Type 0) : Type 0 where
  pub desk : D
  pub link : L
  pub input : I
  pub output : O

abbrev pub ends : {D L I O : Type 0} → D → L → I → O → Ends D L I O
ends desk link input output =
    record { desk = desk; link = link; input = input; output = output }

module _ {D L I O J P : Type 0} (desk : D → DeskTold (I × O)) (input : I → SourceTold)
    (output : O → SinkTold) (link : L → LinkTold (J × P)) (received : J → SourceTold)
    (sent : P → SinkTold) where
  -- the command `dvr`, with the number of its status
  abbrev pub RunsDvr : List Text → ℕ → Ends D L I O → Ends D L I O → Type 0
  RunsDvr words n old new =
      ((status : _) × (n ≡ dvr_code status)
      × dvr.Runs desk input output (opening_given words) status
      (dvr.outside old.desk old.input old.output) (dvr.outside new.desk new.input new.output))
      × (new.link ≡ old.link)

  -- an audit, which reads nothing of the input
  abbrev pub RunsAudit : List Text → ℕ → Ends D L I O → Ends D L I O → Type 0
  RunsAudit words n old new =
      ((status : _) × (n ≡ audit_code status)
      × audit.RunsAudit desk output (arguments_of words) status old.desk new.desk old.output
      new.output)
      × (new.link ≡ old.link) × (new.input ≡ old.input)

  -- agents that follow a server, over links, and read nothing of the input
  abbrev pub RunsAgent : List Text → ℕ → Ends D L I O → Ends D L I O → Type 0
  RunsAgent words n old new =
      ((status : _) × (n ≡ agent_code status)
      × agent.Runs desk link received sent output (agent_line_of words) status
      (agent.outside old.desk old.link old.output) (agent.outside new.desk new.link new.output))
      × (new.input ≡ old.input)

  -- a command of the server, or what is none
  abbrev pub RunsServer : List Text → ℕ → Ends D L I O → Ends D L I O → Type 0
  RunsServer words n old new =
      ((status : _) × (n ≡ server_code status)
      × server.Runs desk input output (line_of words) status
      (server.outside old.desk old.input old.output)
      (server.outside new.desk new.input new.output))
      × (new.link ≡ old.link)

  abbrev pub Runs : List Text → Named → ℕ → Ends D L I O → Ends D L I O → Type 0
  Runs words Dvr n old new = RunsDvr words n old new
  Runs words Audit n old new = RunsAudit words n old new
  Runs words Agent n old new = RunsAgent words n old new
  Runs words Server n old new = RunsServer words n old new

-- ---- what a status tells

-- the words are a command line
abbrev pub is_line : List Text → Named → Bool
is_line words Dvr = is_some (opening_given words)
is_line words Audit = is_some (arguments_of words)
is_line words Agent = is_some (agent_line_of words)
is_line words Server = is_some (line_of words)

module _ {P : Type 0} (words : List Text) (old : DeskTold P) where
  -- the bytes of the named settings spell none
  abbrev pub HasBadSettings : Named → Type 0
  HasBadSettings Dvr = dvr.HasBadSettings (opening_given words) old
  HasBadSettings Audit = audit.HasBadSettings (arguments_of words) old
  HasBadSettings Agent = agent.HasBadSettings (agent_line_of words) old
  HasBadSettings Server = server.HasBadSettings (server.opening_of (line_of words)) old

  -- the rows that the named store keeps break a clause of consistency
  abbrev pub HasBrokenRows : Named → Type 0
  HasBrokenRows Dvr = dvr.HasBrokenRows (opening_given words) old
  HasBrokenRows Audit = audit.HasBrokenRows (arguments_of words) old
  HasBrokenRows Agent = ⊥
  HasBrokenRows Server = server.HasBrokenRows (server.opening_of (line_of words)) old

  -- the bytes of the wanted file are none, or name what the rows of the store haven't
  abbrev pub HasBadWanted : Named → Type 0
  HasBadWanted Dvr = ⊥
  HasBadWanted Audit = audit.HasBadWanted (arguments_of words) old
  HasBadWanted Agent = ⊥
  HasBadWanted Server = ⊥

-- the command answers its input, to the end or to 2^40 bytes
abbrev pub answers_input : List Text → Named → Bool
answers_input words Dvr = true
answers_input words Audit = false
answers_input words Agent = false
answers_input words Server = server.is_session_line (line_of words)
