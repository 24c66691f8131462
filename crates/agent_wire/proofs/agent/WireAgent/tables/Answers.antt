use Rattle.std.proofs.Common.{◌∙◌, Some, ap, option_map}
use Rattle.plane_types.specs.Node.{Agent}
use Rattle.agent_wire.proofs.PhaseLemmas.{agent_none, agent_some}
use Rattle.agent_wire.proofs.agent.WireAgent.tables.Goals as goal

pub returns-in-Some : goal.returns-in-Some
returns-in-Some c =
    let i = c.self.inside in
    ap Some c.tables.ensures.tables ∙ ap (option_map (λ (a : Agent). a.tables)) (agent_some i.host i.settings i.node i.phase c.args.self.now c.self.view_is c.in-Some.node c.in-Some.is)

pub returns-in-None : goal.returns-in-None
returns-in-None c = let i = c.self.inside in ap (option_map (λ (a : Agent). a.tables)) (agent_none i.host i.settings i.node i.phase c.args.self.now c.self.view_is c.in-None.is)
