-- A host's agents behind a wire, and what they make of a reply as bytes.
use Rattle.std.specs.Prelude.{◌≡◌, ◌⊎◌}
use Rattle.net_addr.specs.Words.{Bytes, Text, Version}
use Rattle.api_types.specs.RowLists.{RowLists}
use Rattle.net_settings.specs.Settings.{SettingsParts}
use Rattle.wire_types.specs.declared.reply.WireReply.{WireReply}
use Rattle.wire_types.specs.declared.step.WireStep.{WireStep}
use Rattle.wire_types.specs.declared.step.WireStep.TheVariants as step
use Rattle.world_laws.specs.World.{AreSound}
use Rattle.wire_laws.specs.Hearing.{Hears, Takes, agent_with}
use Rattle.wire_laws.specs.WireStates.{WireState, agent_of}
use Rattle.wire_replies.specs.ReplyTexts.{IsReplyText}

pub record HostAgent : Type 0 where
  pub host : Text
  pub settings : SettingsParts
  pub state : WireState

-- a reply says this, and this is what becomes of it
pub record HearsSaid (old : HostAgent) (r : WireReply) (s : WireStep) (new : HostAgent)
    : Type 0 where
  pub hears : Hears old.settings old.host old.state r s new.state
  pub stays : new ≡ record old { state = new.state }

-- the rows of a version are put in place if they are sound
pub record PutsRows (old : HostAgent) (version : Version) (rows : RowLists) (s : WireStep)
    (new : HostAgent) : Type 0 where
  pub takes : Takes (AreSound old.settings rows)
      (agent_with old.host version rows (agent_of old.state)) old.state s new.state
  pub stays : new ≡ record old { state = new.state }

-- the bytes are a reply that says something, and this is what becomes of it
pub record HearsReply (old : HostAgent) (bytes : Bytes) (s : WireStep) (new : HostAgent)
    : Type 0 where
  pub reply : WireReply
  pub text : IsReplyText bytes reply
  pub said : HearsSaid old reply s new

-- no server writes these bytes, and nothing changes
pub record HearsNothing (old : HostAgent) (bytes : Bytes) (s : WireStep) (new : HostAgent)
    : Type 0 where
  pub none : (r : WireReply) → IsReplyText bytes r → ⊥
  pub bad : s ≡ step.BadReply
  pub same : new ≡ old

abbrev pub HearsBytes : HostAgent → Bytes → WireStep → HostAgent → Type 0
HearsBytes old bytes s new = HearsReply old bytes s new ⊎ HearsNothing old bytes s new
