use Rattle.std.proofs.Common.{◌∙◌, refl, subst, sym, true≢false}
use Rattle.world_laws.specs.World.{AreSound}
use Rattle.agent_wire.specs.HostAgents.{HostAgent}
use Rattle.agent_wire.specs.Phases.{IsInState, agent_in}
use Rattle.agent_wire.proofs.PhaseLemmas.{holds_rows, host_agent, on_err}
use Rattle.agent_wire.proofs.SaidLemmas.{put_badly, put_well}
use Rattle.agent_wire.proofs.agent.WireAgent.put_rows.Goals as goal

pub returns-then-not-are_sound-clause-ok : goal.returns-then-not-are_sound-clause-ok
returns-then-not-are_sound-clause-ok c =
    let old : HostAgent = c.args.self.now in
    let rows = c.args.rows.now in
    put_badly old c.args.version rows (λ sound. true≢false (sym (c.if-not-are_sound.ensures.1 (subst (λ (o : HostAgent). AreSound o.settings rows) (sym c.self.view_is) sound))))

pub give_rows-requires : goal.give_rows-requires
give_rows-requires c = (c.if-not-are_sound.ensures.0 refl).consistent

pub invariant_of-self : goal.invariant_of-self
invariant_of-self c =
    let i = c.self.inside in
    subst (λ node. IsInState node i.phase) (sym c.in_err-give_rows.ensures.same) c.self.invariant

pub returns-in_err-give_rows-clause-same : goal.returns-in_err-give_rows-clause-same
returns-in_err-give_rows-clause-same c =
    let i = c.self.inside in
    on_err c.from_residual.result _ ((λ j. host_agent i.host i.settings (c.in_err-give_rows.ensures.same j) i.phase) ∙ c.self.view_is)

pub invariant_of-self-2 : goal.invariant_of-self-2
invariant_of-self-2 c =
    let i = c.self.inside in
    holds_rows c.give_rows.new.node i.host c.args.version c.args.rows.now (agent_in i.node) c.in_ok-give_rows.ensures.ok

pub returns-clause-ok : goal.returns-clause-ok
returns-clause-ok c =
    let i = c.self.inside in
    put_well i.host i.settings i.node c.give_rows.new.node i.phase c.args.self.now c.args.version c.args.rows.now c.self.view_is (c.if-not-are_sound.ensures.0 refl) c.in_ok-give_rows.ensures.ok
