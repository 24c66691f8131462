-- The reply to a request (OpenStack API reference, Networking API v2.0: normal response codes and
-- faults; RFC 9110, section 15).
use Rattle.std.specs.Prelude.{ℕ, Bool, Option, Some, None, codes, take}
use Rattle.std.specs.Str.{bytes_eq}
use Rattle.net_addr.specs.Words.{Bytes, Text}
use Rattle.api_types.specs.Outcome.{Refused, Told, Moved}
use Rattle.api_types.specs.Printed.{Reply, OneRow, ManyRows, NewRow, NoRow, InterfaceRow, reply_of}
use Rattle.api_types.specs.declared.refusal.Refusal.{Refusal}
use Rattle.api_types.specs.declared.refusal.Refusal.TheVariants.{NoMethod}
use Rattle.json_replies.specs.Bodies.{answer_tree, body_of, fault_tree, lab_tree}
use Rattle.json_trees.specs.Printed.{body_text}
use Rattle.lab_world.specs.Lab.{Answered, Barred}
use Rattle.lab_world.specs.World.{AskOutcome, ByLab, ByMachine}
use Rattle.neutron_http.specs.Faults.{code_of}
use Rattle.neutron_http.specs.Replies.{reply_bytes}
use Rattle.plane_types.specs.declared.ask.LabAnswer.{LabAnswer}
use Rattle.plane_types.specs.declared.ask.Reply as told
use Rattle.plane_types.specs.declared.ask.Reply.TheVariants.{Done, LabDone, Refused as RefusedBy}

-- the status of an answer: 201 for a new row, 204 for a row that is gone, and otherwise 200
abbrev pub answer_code : Reply → ℕ
answer_code (NewRow row) = 201
answer_code NoRow = 204
answer_code (OneRow row) = 200
answer_code (ManyRows kind rows) = 200
answer_code (InterfaceRow row) = 200

-- the methods that a path has, where a method is refused
abbrev pub allowed_by : Refusal → Option Text
allowed_by (NoMethod allowed) = Some allowed
allowed_by refusal = None

abbrev pub answer_bytes : Bool → Reply → Bytes
answer_bytes close reply =
    reply_bytes (answer_code reply) close None (body_text (answer_tree reply))

abbrev pub refusal_bytes : Bool → Refusal → Bytes
refusal_bytes close refusal =
    reply_bytes (code_of refusal) close (allowed_by refusal)
    (body_text (Some (fault_tree refusal)))

abbrev pub lab_bytes : Bool → LabAnswer → Bytes
lab_bytes close answer = reply_bytes 200 close None (body_text (Some (lab_tree answer)))

-- the bytes of the reply
abbrev pub outcome_bytes : Bool → AskOutcome → Bytes
outcome_bytes close (ByMachine (Refused refusal)) = refusal_bytes close refusal
outcome_bytes close (ByMachine (Told reply)) = answer_bytes close reply
outcome_bytes close (ByMachine (Moved rows reply)) = answer_bytes close reply
outcome_bytes close (ByLab (Barred refusal)) = refusal_bytes close refusal
outcome_bytes close (ByLab (Answered answer world)) = lab_bytes close answer

-- a status of the class 2xx, by the first bytes of the status line (RFC 9112, section 4; RFC 9110,
-- section 15)
abbrev pub is_success : Bytes → Bool
is_success reply = bytes_eq (take 10 reply) (codes "HTTP/1.1 2")

-- ---- replies as values

abbrev pub code_in : told.Reply → ℕ
code_in (Done answer) = answer_code (reply_of answer)
code_in (LabDone answer) = 200
code_in (RefusedBy refusal) = code_of refusal

abbrev pub allowed_in : told.Reply → Option Text
allowed_in (Done answer) = None
allowed_in (LabDone answer) = None
allowed_in (RefusedBy refusal) = allowed_by refusal

abbrev pub reply_written : Bool → told.Reply → Bytes
reply_written close reply = reply_bytes (code_in reply) close (allowed_in reply) (body_of reply)
