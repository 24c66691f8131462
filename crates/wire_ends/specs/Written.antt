-- What is asked of the lab by an agent, and what is known of the texts that answer it.
use Rattle.std.specs.Prelude.{IsUtf8, Some, ⊤}
use Rattle.json_replies.specs.Bodies.{fault_tree, lab_tree}
use Rattle.json_trees.specs.Printed.{body_text}
use Rattle.lab_world.specs.Lab.{Answered, Barred, LabOutcome}
use Rattle.net_addr.specs.Words.{Bytes}
use Rattle.neutron_http.specs.Faults.{message_of, type_of}
use Rattle.plane_types.specs.declared.ask.LabCall.{LabCall}
use Rattle.plane_types.specs.declared.ask.LabCall.TheVariants as call
use Rattle.wire_replies.specs.ReplyTexts.{IsWritable}
use Rattle.wire_types.specs.declared.ask.WireAsk.{WireAsk}
use Rattle.wire_types.specs.declared.ask.WireAsk.TheVariants as ask
use Rattle.wire_types.specs.declared.reply.WireReply.{WireReply}
use Rattle.wire_types.specs.declared.reply.WireReply.TheVariants as reply

-- the call of the lab that an agent's ask is
abbrev pub call_of : WireAsk → LabCall
call_of ask.Version = call.Version
call_of (ask.Page version number) = call.Page version number
call_of (ask.Change number) = call.Change number

-- the values of an answer are such that their types hold them
abbrev pub HasTypes : WireReply → Type 0
HasTypes (reply.Version first last) = IsWritable (reply.Version first last)
HasTypes (reply.Change n items) = IsWritable (reply.Change n items)
HasTypes (reply.Page version n last rows) = IsWritable (reply.Page version n last rows)
HasTypes reply.NoMessage = ⊤
HasTypes reply.VersionMoved = ⊤
HasTypes reply.NoPage = ⊤
HasTypes reply.Refused = ⊤

-- the body of the reply
abbrev pub body_in : LabOutcome → Bytes
body_in (Barred refusal) = body_text (Some (fault_tree refusal))
body_in (Answered answer w) = body_text (Some (lab_tree answer))

-- the words of a refusal are texts
abbrev pub HasTexts : LabOutcome → Type 0
HasTexts (Barred refusal) = IsUtf8 (message_of refusal) × IsUtf8 (type_of refusal)
HasTexts (Answered answer w) = ⊤

-- the body is a text, and so are its words
pub record IsText (outcome : LabOutcome) : Type 0 where
  pub body : IsUtf8 (body_in outcome)
  pub words : HasTexts outcome
