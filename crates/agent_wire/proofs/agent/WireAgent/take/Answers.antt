use Rattle.std.proofs.Common.{subst, sym}
use Rattle.std.specs.Prelude.{IfOk}
use Rattle.wire_types.specs.declared.reply.WireReply.TheVariants as reply
use Rattle.wire_types.specs.declared.step.WireStep.TheVariants as step
use Rattle.agent_wire.specs.HostAgents.{HearsSaid}
use Rattle.agent_wire.proofs.HearLemmas.{refused}
use Rattle.agent_wire.proofs.SaidLemmas.{passes}
use Rattle.agent_wire.proofs.agent.WireAgent.take.Goals as goal

pub returns-in-Version-clause-ok : goal.returns-in-Version-clause-ok
returns-in-Version-clause-ok c = subst (λ r. HearsSaid c.args.self.now r c.take_version.result c.take_version.new.self) (sym c.in-Version.is) c.take_version.ensures

pub returns-in-Page-clause-ok : goal.returns-in-Page-clause-ok
returns-in-Page-clause-ok c = subst (λ r. IfOk c.take_page.result (λ s. HearsSaid c.args.self.now r s c.take_page.new.self)) (sym c.in-Page.is) c.take_page.ensures.ok

pub returns-in-Change-clause-ok : goal.returns-in-Change-clause-ok
returns-in-Change-clause-ok c = subst (λ r. IfOk c.take_change.result (λ s. HearsSaid c.args.self.now r s c.take_change.new.self)) (sym c.in-Change.is) c.take_change.ensures.ok

pub returns-in-NoMessage-clause-ok : goal.returns-in-NoMessage-clause-ok
returns-in-NoMessage-clause-ok c = subst (λ r. HearsSaid c.args.self.now r c.take_lack.result c.take_lack.new.self) (sym c.in-NoMessage.is) c.take_lack.ensures

pub returns-in-VersionMoved-clause-ok : goal.returns-in-VersionMoved-clause-ok
returns-in-VersionMoved-clause-ok c = subst (λ r. HearsSaid c.args.self.now r c.restart.result c.restart.new.self) (sym c.in-VersionMoved.is) c.restart.ensures.moved

pub returns-in-NoPage-clause-ok : goal.returns-in-NoPage-clause-ok
returns-in-NoPage-clause-ok c = subst (λ r. HearsSaid c.args.self.now r c.restart-in-NoPage.result c.restart-in-NoPage.new.self) (sym c.in-NoPage.is) c.restart-in-NoPage.ensures.page

pub returns-in-Refused-clause-ok : goal.returns-in-Refused-clause-ok
returns-in-Refused-clause-ok c =
    let old = c.args.self.now in
    subst (λ r. HearsSaid old r step.Again old) (sym c.in-Refused.is) (passes old reply.Refused step.Again (refused old.settings old.host old.state))
