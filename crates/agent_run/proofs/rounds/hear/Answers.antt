use Rattle.std.proofs.Common.{refl, subst}
use Rattle.agent_wire.specs.HostAgents.{HearsBytes}
use Rattle.agent_run.proofs.rounds.hear.Goals as goal

pub returns-clause-ok : goal.returns-clause-ok
returns-clause-ok c =
    (c.in_ok-step.step, refl, subst (λ bytes. HearsBytes c.args.agent.now bytes c.in_ok-step.step c.heard.new.self) c.as_slice.ensures c.in_ok-step.ensures.heard)
