-- What a request makes of the server, and its reply.
use Rattle.std.specs.Prelude.{◌≡◌, true, Result, Ok, Err, None}
use Rattle.net_addr.specs.Words.{Bytes}
use Rattle.api_types.specs.Outcome.{Refused}
use Rattle.api_types.specs.declared.call.Caller.{Caller}
use Rattle.api_types.specs.declared.refusal.Refusal.{Refusal}
use Rattle.api_types.specs.declared.refusal.Refusal.TheVariants.{Malformed, HeadLarge, BodyLarge, NoLength, StoreFault}
use Rattle.http_heads.specs.Fields.{closes}
use Rattle.http_heads.specs.Heads.{Asked}
use Rattle.http_session.specs.Told.{Fixed}
use Rattle.http_session.specs.declared.bad_bytes.BadBytes.{BadBytes}
use Rattle.http_session.specs.declared.bad_bytes.BadBytes.TheVariants as bad
use Rattle.world_laws.specs.World.{World}
use Rattle.lab_world.specs.World.{AskOutcome, ByMachine, MovesBy, ask_outcome, is_change}
use Rattle.neutron_http.specs.Replies.{reply_bytes, no_memory_body}
use Rattle.neutron_serve.specs.Replies.{outcome_bytes, refusal_bytes}
use Rattle.neutron_serve.specs.Requests.{request_of}
use Rattle.plane_types.specs.declared.ask.Ask.{Ask}

-- what a request comes to: the outcome of its ask, or its refusal
abbrev pub request_outcome : World → Result (Caller × Ask) Refusal → AskOutcome
request_outcome world (Ok request) = ask_outcome world request.0 request.1
request_outcome world (Err refusal) = ByMachine (Refused refusal)

-- one request: the world moves by its outcome, whose reply is written
pub record Steps (old : World) (asked : Asked) (reply : Bytes) (new : World) : Type 0 where
  pub moves : MovesBy old (request_outcome old (request_of asked)) new
  pub replies : reply ≡ outcome_bytes (closes asked.head) (request_outcome old (request_of asked))

-- the refusals of bytes by their numbers
abbrev pub byte_refusal : BadBytes → Refusal
byte_refusal bad.Malformed = Malformed
byte_refusal bad.HeadLarge = HeadLarge
byte_refusal bad.BodyLarge = BodyLarge
byte_refusal bad.NoLength = NoLength

-- the replies that are none of a step, and the requests that come to a change
abbrev pub fixed_replies : Fixed World
fixed_replies = record {
  store_failed = λ close. refusal_bytes close StoreFault;
  no_memory = λ close. reply_bytes 507 close None no_memory_body;
  refusal = λ b. refusal_bytes true (byte_refusal b);
  changes = λ world asked. is_change (request_outcome world (request_of asked));
  may_want = true;
}
