use Rattle.std.proofs.Common.{false, refl, subst, true}
use Rattle.agent_wire.specs.Phases.{HasNode, is_following}
use Rattle.agent_wire.specs.declared.agent.Phase.TheVariants.{Check, Follow}
use Rattle.agent_wire.proofs.PhaseLemmas.{is_follow, no_follow, seen}
use Rattle.agent_wire.proofs.agent.WireAgent.is_following.Goals as goal

pub returns-in-Check : goal.returns-in-Check
returns-in-Check c = let i = c.self.inside in seen i.host i.settings i.node i.phase c.args.self.now c.self.view_is is_following false Check c.in-Check.is (no_follow i.node)

pub returns-in-Draft : goal.returns-in-Draft
returns-in-Draft c = let i = c.self.inside in seen i.host i.settings i.node i.phase c.args.self.now c.self.view_is is_following false _ c.in-Draft.is refl

pub returns-in-Follow : goal.returns-in-Follow
returns-in-Follow c = let i = c.self.inside in seen i.host i.settings i.node i.phase c.args.self.now c.self.view_is is_following true Follow c.in-Follow.is (is_follow i.node (subst (HasNode i.node) c.in-Follow.is c.self.invariant.1))
