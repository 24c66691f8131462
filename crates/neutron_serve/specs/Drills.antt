-- A drill: a session over requests that are made, and its summary.
use Rattle.std.specs.Prelude.{◌≡◌, ◌⊎◌, ℕ, ◌^◌, ◌==◌, Bool, true, false, if◌then◌else◌, [], ◌++◌, length, Some, codes, option_map}
use Rattle.std.specs.Fmt.{decimal}
use Rattle.std.specs.Io.KnownBytes.{Appends}
use Rattle.net_addr.specs.Words.{Bytes, Text, Version}
use Rattle.api_types.specs.Rows.{no_rows}
use Rattle.api_types.specs.declared.refusal.Refusal.{Refusal}
use Rattle.api_types.specs.declared.refusal.Refusal.TheVariants as refusal
use Rattle.drill_gen.specs.Stream.{stream}
use Rattle.http_heads.specs.Heads.{Asked}
use Rattle.http_session.specs.Serves.{Scene, Serves, scene}
use Rattle.http_session.specs.Told.{Fixed}
use Rattle.http_session.specs.declared.session_end.SessionEnd.TheVariants.{Done}
use Rattle.keeper_core.specs.Counts.{raised}
use Rattle.keeper_core.specs.Ends.{SinkTold}
use Rattle.keeper_core.specs.Kept.{sure_rows}
use Rattle.keeper_core.specs.declared.last_read.LastRead.TheVariants.{Unread}
use Rattle.lab_world.specs.Lab.{Answered, Barred}
use Rattle.lab_world.specs.World.{AskOutcome, ByLab, ByMachine}
use Rattle.api_types.specs.Outcome.{Moved, Refused, Told}
use Rattle.net_settings.specs.Defaults.{default_parts}
use Rattle.neutron_http.specs.Faults.{code_of}
use Rattle.plane_types.specs.declared.ask.LabAnswer.{LabAnswer}
use Rattle.plane_types.specs.declared.ask.LabAnswer.TheVariants as lab
use Rattle.plane_types.specs.declared.ask.Reply.{Reply}
use Rattle.plane_types.specs.declared.ask.Reply.TheVariants as reply
use Rattle.plane_types.specs.declared.verdict.Outcome.{Outcome}
use Rattle.plane_types.specs.declared.verdict.Outcome.TheVariants as becomes
use Rattle.world_laws.specs.World.{IsSynced, first_world}
use Rattle.neutron_serve.specs.Replies.{answer_code}
use Rattle.neutron_serve.specs.Requests.{request_of}
use Rattle.neutron_serve.specs.Steps.{Steps, fixed_replies, request_outcome}
use Rattle.neutron_serve.specs.declared.drilling.Drill.{Drill}
use Rattle.neutron_serve.specs.declared.drilling.Tally.{Tally}
use Rattle.neutron_serve.specs.declared.status.Status.{Status}
use Rattle.neutron_serve.specs.declared.status.Status.TheVariants as ends

-- ---- what is counted

abbrev pub raised_if : Bool → ℕ → ℕ
raised_if b count = if b then raised count else count

-- one reply more, of this status, that tells of a frame that was delivered or doesn't
abbrev pub counted : ℕ → Bool → Tally → Tally
counted code is_delivered t = record {
  requests = raised t.requests;
  created = raised_if (code == 201) t.created;
  fine = raised_if (code == 200) t.fine;
  conflicts = raised_if (code == 409) t.conflicts;
  delivered = raised_if is_delivered t.delivered;
  whole = t.whole;
}

-- the status of an outcome
abbrev pub outcome_code : AskOutcome → ℕ
outcome_code (ByMachine (Refused refusal)) = code_of refusal
outcome_code (ByMachine (Told answer)) = answer_code answer
outcome_code (ByMachine (Moved rows answer)) = answer_code answer
outcome_code (ByLab (Barred refusal)) = code_of refusal
outcome_code (ByLab (Answered answer world)) = 200

abbrev pub is_delivery : Outcome → Bool
is_delivery (becomes.Delivered port frame) = true
is_delivery other = false

abbrev pub tells_delivery : LabAnswer → Bool
tells_delivery (lab.Seen verdict) = is_delivery verdict.outcome
tells_delivery other = false

-- whether an outcome is that a frame was delivered
abbrev pub outcome_delivers : AskOutcome → Bool
outcome_delivers (ByMachine outcome) = false
outcome_delivers (ByLab (Barred refusal)) = false
outcome_delivers (ByLab (Answered answer world)) = tells_delivery answer

abbrev pub is_delivered : Reply → Bool
is_delivered (reply.LabDone answer) = tells_delivery answer
is_delivered other = false

-- memory ran out, or the store failed
abbrev pub is_outside_refusal : Refusal → Bool
is_outside_refusal refusal.OutOfMemory = true
is_outside_refusal refusal.StoreFault = true
is_outside_refusal other = false

abbrev pub is_outside : Reply → Bool
is_outside (reply.Refused refusal) = is_outside_refusal refusal
is_outside other = false

-- ---- a drill's requests

-- While all is whole, a request is answered by the step of the API or of the lab, every host holds
-- the current version after it, and it is counted by its outcome. So where all is whole at the
-- end, it is so of each request.
pub record DrillSteps (old : Drill) (asked : Asked) (written : Bytes) (new : Drill) : Type 0 where
  pub whole : new.tally.whole ≡ true → old.tally.whole ≡ true
  pub steps : new.tally.whole ≡ true → Steps old.world asked written new.world
  pub heard : new.tally.whole ≡ true → IsSynced new.world
  pub counts : new.tally.whole ≡ true
      → new.tally
      ≡ counted (outcome_code (request_outcome old.world (request_of asked)))
      (outcome_delivers (request_outcome old.world (request_of asked))) old.tally

-- the replies to bytes that are refused are those of every session; in place of a step's reply
-- there comes none
abbrev pub drill_replies : Fixed Drill
drill_replies = record {
  store_failed = fixed_replies.store_failed;
  no_memory = fixed_replies.no_memory;
  refusal = fixed_replies.refusal;
  changes = λ drill asked. false;
  may_want = false;
}

abbrev pub fresh_tally : Tally
fresh_tally =
    record { requests = 0; created = 0; fine = 0; conflicts = 0; delivered = 0; whole = true }

-- no rows under the default settings, and each host hears of each change at once
abbrev pub fresh_drill : Drill
fresh_drill = record { world = first_world default_parts false no_rows; tally = fresh_tally }

-- what the session of a drill begins with: the made requests as its input, and an empty output
abbrev pub first_scene : ℕ → ℕ → Scene Drill
first_scene start size =
    scene fresh_drill (sure_rows no_rows)
    (record { left = Some (stream start size); last = Unread; faults = 0 })
    (record { written = Some []; flushed = Some 0; faults = 0 })

-- a session over the made requests comes to its end: its replies, what is counted of them, and the
-- version of the rows after it
pub record IsDrilled (start size : ℕ) (out : Bytes) (tally : Tally) (version : Version)
    : Type 0 where
  pub after : Scene Drill
  pub serves : Serves DrillSteps drill_replies (2 ^ 40) (first_scene start size) after Done
  pub written : after.output.written ≡ Some out
  pub sure : after.store.faults ≡ 0
  pub whole : after.world.tally.whole ≡ true
  pub tally_is : tally ≡ after.world.tally
  pub version_is : version ≡ after.world.world.history.version

-- ---- what is written

abbrev pub count_line : Text → ℕ → Bytes
count_line name count = name ++ codes " " ++ decimal count ++ codes "\n"

abbrev pub summary_text : Tally → Version → Bytes
summary_text t version =
    count_line (codes "requests") t.requests ++ count_line (codes "201") t.created
    ++ count_line (codes "200") t.fine ++ count_line (codes "409") t.conflicts
    ++ count_line (codes "delivered") t.delivered ++ count_line (codes "version") version

-- the replies, where they are wanted, and the summary
pub record IsDrillText (start size : ℕ) (replies : Bool) (text : Bytes) : Type 0 where
  pub out : Bytes
  pub tally : Tally
  pub version : Version
  pub drilled : IsDrilled start size out tally version
  pub is : text ≡ (if replies then out else []) ++ summary_text tally version

-- all of it is written and flushed, or a front of it
abbrev pub IsWrittenOut : Status → Bytes → SinkTold → SinkTold → Type 0
IsWrittenOut status text old new =
    ((status ≡ ends.Done) × Appends old.written new.written text
    × (new.flushed ≡ option_map length new.written))
    ⊎ (((status ≡ ends.WriteFault) ⊎ (status ≡ ends.OutOfMemory))
    × ((front : Bytes) × (back : Bytes) × (text ≡ front ++ back)
    × Appends old.written new.written front))

-- a drill writes nothing since memory ran out, or what it is to write
abbrev pub RunsDrill : ℕ → ℕ → Bool → Status → SinkTold → SinkTold → Type 0
RunsDrill start size replies status old new =
    ((status ≡ ends.OutOfMemory) × (new.written ≡ old.written))
    ⊎ ((text : Bytes) × IsDrillText start size replies text × IsWrittenOut status text old new)
