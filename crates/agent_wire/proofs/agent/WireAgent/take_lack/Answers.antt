use Rattle.std.proofs.Common.{sym}
use Rattle.wire_types.specs.declared.reply.WireReply.TheVariants as reply
use Rattle.wire_types.specs.declared.step.WireStep.TheVariants as step
use Rattle.agent_wire.specs.HostAgents.{HostAgent}
use Rattle.agent_wire.proofs.HearLemmas.{lack_passed}
use Rattle.agent_wire.proofs.SaidLemmas.{passes, said_asked}
use Rattle.agent_wire.proofs.agent.WireAgent.take_lack.Goals as goal

pub returns-then-not-is_following : goal.returns-then-not-is_following
returns-then-not-is_following c =
    let old : HostAgent = c.args.self.now in
    passes old reply.NoMessage step.Again (lack_passed old.settings old.host old.state (sym c.if-not-is_following.ensures))

pub invariant_of-self : goal.invariant_of-self
invariant_of-self c = (c.self.invariant.0, tt)

pub returns : goal.returns
returns c = let i = c.self.inside in said_asked i.host i.settings i.node i.phase c.args.self.now c.self.view_is (sym c.if-not-is_following.ensures)
