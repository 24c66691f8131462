use Rattle.std.proofs.Common.{◌≡◌, subst, sym}
use Rattle.std.specs.Prelude.{MatchOption}
use Rattle.std.proofs.lemmas.Result.{IfOk-weaker}
use Rattle.api_types.specs.Rows.{Fits, after}
use Rattle.wire_types.specs.declared.reply.WireReply.TheVariants as reply
use Rattle.wire_types.specs.declared.step.WireStep.TheVariants as step
use Rattle.agent_wire.specs.HostAgents.{HostAgent}
use Rattle.agent_wire.proofs.HearLemmas.{change_passed}
use Rattle.agent_wire.proofs.SaidLemmas.{passes, said_put, said_unfit}
use Rattle.agent_wire.proofs.agent.WireAgent.take_change.Goals as goal

pub returns-then-not-awaits_change-clause-ok : goal.returns-then-not-awaits_change-clause-ok
returns-then-not-awaits_change-clause-ok c =
    let old : HostAgent = c.args.self.now in
    passes old (reply.Change c.args.number c.args.change.now) step.Again (change_passed old.settings old.host old.state c.args.number c.args.change.now (sym c.if-not-awaits_change.ensures))

pub returns-in-Some-clause-ok : goal.returns-in-Some-clause-ok
returns-in-Some-clause-ok c =
    let change = c.args.change.now in
    IfOk-weaker c.put_rows.result _ _ (λ s puts. said_put c.args.self.now c.args.number change (sym c.if-not-awaits_change.ensures) c.in-Some.rows s c.put_rows.new.self
    (λ a held. subst (λ o. MatchOption o (Fits a.rows change → ⊥) (λ rows. Fits a.rows change × (rows ≡ after a.rows change))) c.in-Some.is (c.in_ok-rows.ensures a held))
    puts) c.put_rows.ensures.ok

pub returns-in-None-clause-ok : goal.returns-in-None-clause-ok
returns-in-None-clause-ok c =
    let change = c.args.change.now in
    said_unfit c.args.self.now c.args.number change (sym c.if-not-awaits_change.ensures)
    (λ a held. subst (λ o. MatchOption o (Fits a.rows change → ⊥) (λ rows. Fits a.rows change × (rows ≡ after a.rows change))) c.in-None.is (c.in_ok-rows.ensures a held))
