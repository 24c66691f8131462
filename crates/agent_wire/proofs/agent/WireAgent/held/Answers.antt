use Rattle.std.proofs.Common.{◌∙◌}
use Rattle.agent_wire.proofs.PhaseLemmas.{held_none, held_some}
use Rattle.agent_wire.proofs.agent.WireAgent.held.Goals as goal

pub returns-in-Some : goal.returns-in-Some
returns-in-Some c = let i = c.self.inside in c.held.ensures ∙ held_some i.host i.settings i.node i.phase c.args.self.now c.self.view_is c.in-Some.node c.in-Some.is c.self.invariant.0

pub returns-in-None : goal.returns-in-None
returns-in-None c = let i = c.self.inside in held_none i.host i.settings i.node i.phase c.args.self.now c.self.view_is c.in-None.is
