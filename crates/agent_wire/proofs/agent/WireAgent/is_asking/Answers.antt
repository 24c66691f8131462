use Rattle.std.proofs.Common.{false, refl, subst, true}
use Rattle.agent_wire.specs.Phases.{HasNode, is_asking}
use Rattle.agent_wire.specs.declared.agent.Phase.TheVariants.{Check, Follow}
use Rattle.agent_wire.proofs.PhaseLemmas.{is_check, no_check, seen}
use Rattle.agent_wire.proofs.agent.WireAgent.is_asking.Goals as goal

pub returns-in-Check : goal.returns-in-Check
returns-in-Check c = let i = c.self.inside in seen i.host i.settings i.node i.phase c.args.self.now c.self.view_is is_asking true Check c.in-Check.is (is_check i.node)

pub returns-in-Draft : goal.returns-in-Draft
returns-in-Draft c = let i = c.self.inside in seen i.host i.settings i.node i.phase c.args.self.now c.self.view_is is_asking false _ c.in-Draft.is refl

pub returns-in-Follow : goal.returns-in-Follow
returns-in-Follow c = let i = c.self.inside in seen i.host i.settings i.node i.phase c.args.self.now c.self.view_is is_asking false Follow c.in-Follow.is (no_check i.node (subst (HasNode i.node) c.in-Follow.is c.self.invariant.1))
