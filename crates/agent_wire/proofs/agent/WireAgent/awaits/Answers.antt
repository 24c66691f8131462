use Rattle.std.proofs.Common.{false}
use Rattle.agent_wire.specs.Phases.{awaits_page}
use Rattle.agent_wire.specs.declared.agent.Phase.TheVariants.{Check, Follow}
use Rattle.agent_wire.proofs.PhaseLemmas.{checks_awaits, follows_awaits, other_version, same_version, seen}
use Rattle.agent_wire.proofs.agent.WireAgent.awaits.Goals as goal

pub returns-in-Check : goal.returns-in-Check
returns-in-Check c = let i = c.self.inside in seen i.host i.settings i.node i.phase c.args.self.now c.self.view_is (awaits_page c.args.page_version c.args.page_number) false Check c.in-Check.is (checks_awaits i.node c.args.page_version c.args.page_number)

pub returns-in-Follow : goal.returns-in-Follow
returns-in-Follow c = let i = c.self.inside in seen i.host i.settings i.node i.phase c.args.self.now c.self.view_is (awaits_page c.args.page_version c.args.page_number) false Follow c.in-Follow.is (follows_awaits i.node c.args.page_version c.args.page_number)

pub returns-then-page_version-version : goal.returns-then-page_version-version
returns-then-page_version-version c =
    let i = c.self.inside in
    seen i.host i.settings i.node i.phase c.args.self.now c.self.view_is (awaits_page c.args.page_version c.args.page_number) _ _ c.in-Draft.is (same_version c.args.page_version c.in-Draft.version c.args.page_number c.in-Draft.number c.if-page_version-version.true)

pub returns-else-page_version-version : goal.returns-else-page_version-version
returns-else-page_version-version c =
    let i = c.self.inside in
    seen i.host i.settings i.node i.phase c.args.self.now c.self.view_is (awaits_page c.args.page_version c.args.page_number) _ _ c.in-Draft.is (other_version c.args.page_version c.in-Draft.version c.args.page_number c.in-Draft.number c.if-page_version-version.false)
