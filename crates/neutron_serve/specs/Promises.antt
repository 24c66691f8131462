-- What a session promises. Begin here.
--
-- Whole requests are answered once each, in order, each by one whole reply (`Serves`). When the
-- store fails to keep a change, or memory runs out, the reply says so and nothing has changed; any
-- reply may be replaced by one that says out of memory. Each other request is promised what
-- follows. The reply and the rows are those of the machine of the Networking API; where it refuses
-- nothing, the reply is a 2xx. A tenant's reply depends only on its footing, and its request leaves
-- what others own alone. After any messages
-- that hosts missed, got twice or lost in a restart, whenever every host has the current version,
-- each frame that is sent through the tables has exactly the outcome, path and tracked entries
-- that the rows give. Two laws of frames hold then: a frame crosses between networks only at
-- routers, and ends on the last network of its path; a secured port lets in and out only what its
-- groups and its guard allow, and answers to that. In automatic delivery every host has that
-- version until one is restarted.
use Rattle.std.specs.Prelude.{◌≡◌, ℕ, ◌+◌, ◌≤◌, Bool, true, false, List, Ok, None, Some, map}
use Rattle.net_addr.specs.Words.{Bytes, Text, Version}
use Rattle.api_types.specs.Consistent.{IsConsistent}
use Rattle.api_types.specs.Lists.{Each}
use Rattle.api_types.specs.Outcome.{Moved, Refused, Told}
use Rattle.api_types.specs.declared.call.Caller.{Caller}
use Rattle.apart_laws.specs.Footing.{footing}
use Rattle.plane_types.specs.Crossing.{CrossesAtRouters}
use Rattle.plane_types.specs.Hosts.{all_entries}
use Rattle.plane_types.specs.PortSecurity.{AreLetOut, IsLetIn, IsLetOut}
use Rattle.plane_types.specs.Realises.{Realises}
use Rattle.plane_types.specs.Verdicts.{fabric_verdict, fabric_verdicts, hosts_after, rows_verdict, rows_verdicts, without_hosts}
use Rattle.plane_types.specs.declared.ask.Ask.{Ask}
use Rattle.plane_types.specs.declared.ask.Ask.TheVariants.{Lab}
use Rattle.plane_types.specs.declared.ask.LabAnswer.TheVariants.{Seen}
use Rattle.plane_types.specs.declared.ask.LabCall.TheVariants.{Frames, Restart}
use Rattle.plane_types.specs.declared.event.Event.{Event}
use Rattle.bus_core.specs.History.{first_kept, rows_at}
use Rattle.plane_types.specs.Node.{Agent}
use Rattle.world_laws.specs.Lead.{IsWorld}
use Rattle.world_laws.specs.Steps.{Send, step}
use Rattle.world_laws.specs.World.{IsSynced, World, hosts_of}
use Rattle.lab_world.specs.Lab.{Answered, Barred, event_refusal}
use Rattle.lab_world.specs.World.{AskOutcome, ByLab, ByMachine, ask_outcome, state_of}
use Rattle.apart_laws.specs.Others.{OthersStay}
use Rattle.http_heads.specs.Fields.{closes}
use Rattle.http_heads.specs.Heads.{Asked}
use Rattle.http_session.specs.Serves.{Scene, Serves}
use Rattle.http_session.specs.declared.session_end.SessionEnd.{SessionEnd}
use Rattle.neutron_serve.specs.Replies.{is_success, lab_bytes, outcome_bytes}
use Rattle.neutron_serve.specs.Requests.{request_of}
use Rattle.neutron_serve.specs.Steps.{Steps, fixed_replies, request_outcome}

-- the reply tells what the hosts' tables make of an event. Where every host has the current
-- version these are the outcome, path and entries that the rows give, hosts left aside. The path
-- crosses between networks only at routers, and what is delivered, absorbed or sent out by a wire
-- ends on its last network. What is delivered to a secured port is allowed in by a rule of its
-- groups, or answers what a rule lets out. What a secured port sends and isn't dropped passed its
-- guard, and is allowed out by a rule, or answers what a rule lets in
pub record FrameTold (world : World) (event : Event) (close : Bool) (reply : Bytes) : Type 0 where
  pub told : reply ≡ lab_bytes close (Seen (fabric_verdict (hosts_of world) event))
  pub means : IsSynced world
      → without_hosts (fabric_verdict (hosts_of world) event)
      ≡ rows_verdict world.history.rows (all_entries (hosts_of world)) event
  pub crosses : IsSynced world
      → CrossesAtRouters world.history.rows (fabric_verdict (hosts_of world) event)
  pub lets_in : IsSynced world → IsLetIn world.history.rows (fabric_verdict (hosts_of world) event)
  pub lets_out : IsSynced world
      → IsLetOut world.history.rows event (fabric_verdict (hosts_of world) event)

-- where every host has the current version, so it is with events one after the other, each of
-- which sees the entries that the earlier ones made; and they leave it so
pub record FramesTold (world : World) : Type 0 where
  pub means : IsSynced world → (events : List Event)
      → map without_hosts (fabric_verdicts (hosts_of world) events)
      ≡ rows_verdicts world.history.rows (all_entries (hosts_of world)) events
  pub crosses : IsSynced world → (events : List Event)
      → Each (CrossesAtRouters world.history.rows) (fabric_verdicts (hosts_of world) events)
  pub lets_in : IsSynced world → (events : List Event)
      → Each (IsLetIn world.history.rows) (fabric_verdicts (hosts_of world) events)
  pub lets_out : IsSynced world → (events : List Event)
      → AreLetOut world.history.rows events (fabric_verdicts (hosts_of world) events)
  pub follows : (event : Event)
      → hosts_of (step world (Send event)) ≡ hosts_after (hosts_of world) event
  pub stays : IsSynced world → (event : Event) → IsSynced (step world (Send event))

-- a host that has a version, while the change after it is kept, has the rows of that version, and
-- one that has the current version has the current rows; its tables are those that its rows give
-- to it, also while it lags or holds nothing
pub record HostsFollow (world : World) : Type 0 where
  pub told : Each (λ (a : Agent).
      (v : Version) → a.held ≡ Some v → first_kept world.history ≤ v + 1
      → a.rows ≡ rows_at world.history v) world.agents
  pub now : Each (λ (a : Agent). a.held ≡ Some world.history.version
      → a.rows ≡ world.history.rows) world.agents
  pub realised : Each (λ (a : Agent). Realises a.rows a.name a.tables) world.agents

abbrev pub is_refusal : AskOutcome → Bool
is_refusal (ByMachine (Refused refusal)) = true
is_refusal (ByMachine (Told reply)) = false
is_refusal (ByMachine (Moved rows reply)) = false
is_refusal (ByLab (Barred refusal)) = true
is_refusal (ByLab (Answered answer world)) = false

-- what is promised of a request
pub record Promised (old : World) (asked : Asked) (reply : Bytes) (new : World) : Type 0 where
  -- it is answered by the step of the Networking API or of the lab, which alone moves rows,
  -- messages and hosts
  pub steps : Steps old asked reply new
  -- before it the rows are consistent, kept changes lead from version to version, and hosts follow
  -- them
  pub world : IsWorld old
  pub hosts : HostsFollow old
  -- a frame that it sends goes by the hosts' tables, and, where they have the current version,
  -- comes to what the rows say, by the two laws of frames
  pub frame : (caller : Caller) (event : Event)
      → request_of asked ≡ Ok (caller, Lab (Frames event))
      → event_refusal old.history.rows caller event ≡ None
      → FrameTold old event (closes asked.head) reply
  pub frames : FramesTold old
  -- in automatic delivery, where every host has the current version, every host has the current
  -- version after it too, unless it restarts one
  pub synced : old.manual ≡ false → IsSynced old
      → ((caller : Caller) (name : Text) → request_of asked ≡ Ok (caller, Lab (Restart name)) → ⊥)
      → IsSynced new
  -- a tenant is told what it would be told at any server of these settings with consistent rows in
  -- which it has the same footing
  pub apart : (caller : Caller) (ask : Ask) → request_of asked ≡ Ok (caller, ask)
      → caller.admin ≡ false
      → (other : World) → IsConsistent other.history.rows → other.settings ≡ old.settings
      → footing other.settings (state_of other) caller ≡ footing old.settings (state_of old) caller
      → reply ≡ outcome_bytes (closes asked.head) (ask_outcome other caller ask)
  -- a tenant's request leaves what others own alone, but that a policy goes with its network, a
  -- port may go from a network of the tenant's, and a floating address whose port went leads
  -- nowhere
  pub others : (caller : Caller) (ask : Ask) → request_of asked ≡ Ok (caller, ask)
      → caller.admin ≡ false
      → OthersStay caller.project old.history.rows new.history.rows
  -- what is no refusal is answered by a 2xx
  pub succeeds : is_refusal (request_outcome old (request_of asked)) ≡ false
      → is_success reply ≡ true
  -- a refusal leaves all as it was
  pub refused : is_refusal (request_outcome old (request_of asked)) ≡ true → new ≡ old

-- a session of at most this many bytes, from one moment to another, after which hosts follow still
pub record Promises (limit : ℕ) (old new : Scene World) (end : SessionEnd) : Type 0 where
  pub serves : Serves Promised fixed_replies limit old new end
  pub world : IsWorld new.world
