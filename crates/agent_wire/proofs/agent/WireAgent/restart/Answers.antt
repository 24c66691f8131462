use Rattle.std.proofs.Common.{sym}
use Rattle.wire_types.specs.declared.reply.WireReply.TheVariants as reply
use Rattle.wire_types.specs.declared.step.WireStep.TheVariants as step
use Rattle.agent_wire.specs.HostAgents.{HostAgent}
use Rattle.agent_wire.proofs.HearLemmas.{moved_passed, no_page_passed}
use Rattle.agent_wire.proofs.SaidLemmas.{passes, said_moved, said_no_page}
use Rattle.agent_wire.proofs.agent.WireAgent.restart.Goals as goal

pub returns-then-not-is_drafting : goal.returns-then-not-is_drafting
returns-then-not-is_drafting c =
    let old : HostAgent = c.args.self.now in
    let other = sym c.if-not-is_drafting.ensures in record {
      moved = passes old reply.VersionMoved step.Again (moved_passed old.settings old.host old.state other);
      page = passes old reply.NoPage step.Again (no_page_passed old.settings old.host old.state other);
    }

pub invariant_of-self : goal.invariant_of-self
invariant_of-self c = (c.self.invariant.0, tt)

pub returns : goal.returns
returns c =
    let i = c.self.inside in
    let drafts = sym c.if-not-is_drafting.ensures in record {
      moved = said_moved i.host i.settings i.node i.phase c.args.self.now c.self.view_is drafts;
      page = said_no_page i.host i.settings i.node i.phase c.args.self.now c.self.view_is drafts;
    }
