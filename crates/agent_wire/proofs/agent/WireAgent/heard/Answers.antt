use Rattle.std.proofs.Common.{inl, inr, refl, subst}
use Rattle.std.specs.Prelude.{MatchOption}
use Rattle.std.proofs.lemmas.Result.{IfOk-weaker}
use Rattle.wire_types.specs.declared.reply.WireReply.{WireReply}
use Rattle.wire_replies.specs.ReplyTexts.{IsReplyText}
use Rattle.agent_wire.proofs.agent.WireAgent.heard.Goals as goal

pub returns-in-Some-clause-heard : goal.returns-in-Some-clause-heard
returns-in-Some-clause-heard c =
    let bytes = c.args.bytes.now in
    let text : IsReplyText bytes c.in-Some.said = subst (λ o. MatchOption o ((r : WireReply) → IsReplyText bytes r → ⊥) (IsReplyText bytes)) c.in-Some.is c.in_ok-said.ensures in
    IfOk-weaker c.take.result _ _ (λ s said. inl (record { reply = c.in-Some.said; text = text; said = said })) c.take.ensures.ok

pub returns-in-None-clause-heard : goal.returns-in-None-clause-heard
returns-in-None-clause-heard c =
    let bytes = c.args.bytes.now in
    inr (record {
      none = subst (λ o. MatchOption o ((r : WireReply) → IsReplyText bytes r → ⊥) (IsReplyText bytes)) c.in-None.is c.in_ok-said.ensures;
      bad = refl;
      same = refl;
    })
