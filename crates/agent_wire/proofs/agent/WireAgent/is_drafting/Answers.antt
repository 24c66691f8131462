use Rattle.std.proofs.Common.{false, refl, true}
use Rattle.agent_wire.specs.Phases.{is_drafting}
use Rattle.agent_wire.specs.declared.agent.Phase.TheVariants.{Check, Follow}
use Rattle.agent_wire.proofs.PhaseLemmas.{checks_no_pages, follows_no_pages, seen}
use Rattle.agent_wire.proofs.agent.WireAgent.is_drafting.Goals as goal

pub returns-in-Check : goal.returns-in-Check
returns-in-Check c = let i = c.self.inside in seen i.host i.settings i.node i.phase c.args.self.now c.self.view_is is_drafting false Check c.in-Check.is (checks_no_pages i.node)

pub returns-in-Draft : goal.returns-in-Draft
returns-in-Draft c = let i = c.self.inside in seen i.host i.settings i.node i.phase c.args.self.now c.self.view_is is_drafting true _ c.in-Draft.is refl

pub returns-in-Follow : goal.returns-in-Follow
returns-in-Follow c = let i = c.self.inside in seen i.host i.settings i.node i.phase c.args.self.now c.self.view_is is_drafting false Follow c.in-Follow.is (follows_no_pages i.node)
