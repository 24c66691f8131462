use Rattle.std.proofs.Common.{◌∙◌, ap, refl}
use Rattle.wire_types.specs.declared.ask.WireAsk.TheVariants as ask
use Rattle.wire_laws.specs.WireStates.{ask_of}
use Rattle.agent_wire.specs.Phases.{next_ask}
use Rattle.agent_wire.specs.declared.agent.Phase.TheVariants.{Check}
use Rattle.agent_wire.proofs.PhaseLemmas.{asks_on, asks_version, seen}
use Rattle.agent_wire.proofs.agent.WireAgent.ask.Goals as goal

pub returns-in-Check : goal.returns-in-Check
returns-in-Check c = let i = c.self.inside in seen i.host i.settings i.node i.phase c.args.self.now c.self.view_is ask_of ask.Version Check c.in-Check.is (asks_version i.node)

pub returns-in-Draft : goal.returns-in-Draft
returns-in-Draft c = let i = c.self.inside in seen i.host i.settings i.node i.phase c.args.self.now c.self.view_is ask_of _ _ c.in-Draft.is refl

pub returns-in-Follow : goal.returns-in-Follow
returns-in-Follow c = let i = c.self.inside in c.ask_next.ensures ∙ ap next_ask c.held.ensures ∙ asks_on i.host i.settings i.node i.phase c.args.self.now c.self.view_is c.in-Follow.is
