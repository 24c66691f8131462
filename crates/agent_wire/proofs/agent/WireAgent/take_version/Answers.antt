use Rattle.std.proofs.Common.{◌∙◌, ap, sym}
use Rattle.wire_types.specs.declared.reply.WireReply.TheVariants as reply
use Rattle.wire_types.specs.declared.step.WireStep.TheVariants as step
use Rattle.agent_wire.specs.HostAgents.{HostAgent}
use Rattle.agent_wire.specs.Phases.{agent_in, can_go_on}
use Rattle.wire_laws.specs.WireStates.{Draft as Drafts}
use Rattle.agent_wire.specs.declared.agent.Phase.TheVariants.{Draft}
use Rattle.agent_wire.proofs.HearLemmas.{version_passed}
use Rattle.agent_wire.proofs.PhaseLemmas.{has_node}
use Rattle.agent_wire.proofs.SaidLemmas.{passes, said_anew, said_same}
use Rattle.agent_wire.proofs.agent.WireAgent.take_version.Goals as goal

pub returns-then-not-is_asking : goal.returns-then-not-is_asking
returns-then-not-is_asking c =
    let old : HostAgent = c.args.self.now in
    passes old (reply.Version c.args.first c.args.last) step.Again (version_passed old.settings old.host old.state c.args.first c.args.last (sym c.if-not-is_asking.ensures))

pub invariant_of-self : goal.invariant_of-self
invariant_of-self c =
    let i = c.self.inside in
    let goes = sym (c.if-can_follow.ensures ∙ ap (λ h. can_go_on h c.args.first c.args.last) c.held.ensures) in
    (c.self.invariant.0, has_node i.host i.settings i.node i.phase c.args.self.now c.self.view_is c.args.first c.args.last goes)

pub returns-then-can_follow : goal.returns-then-can_follow
returns-then-can_follow c =
    let i = c.self.inside in
    let goes = sym (c.if-can_follow.ensures ∙ ap (λ h. can_go_on h c.args.first c.args.last) c.held.ensures) in
    said_same i.host i.settings i.node i.phase c.args.self.now c.args.first c.args.last c.self.view_is c.self.invariant.1 (sym c.if-not-is_asking.ensures) goes

pub invariant_of-self-2 : goal.invariant_of-self-2
invariant_of-self-2 c = (c.self.invariant.0, tt)

pub returns : goal.returns
returns c =
    let i = c.self.inside in
    let goes = sym (c.if-can_follow.ensures ∙ ap (λ h. can_go_on h c.args.first c.args.last) c.held.ensures) in
    said_anew i.host i.settings i.node i.phase (Draft c.args.last 0 c.new.result) c.args.self.now c.args.first c.args.last c.self.view_is c.self.invariant.1 (sym c.if-not-is_asking.ensures) goes (ap (Drafts (agent_in i.node) c.args.last 0) c.new.ensures.items)
