use Rattle.agent_wire.proofs.PhaseLemmas.{on_err, page_kept, page_put, room_left}
use Rattle.agent_wire.proofs.agent.WireAgent.add_page.Goals as goal

pub add_page-requires : goal.add_page-requires
add_page-requires c = let i = c.self.inside in room_left i.host i.settings i.node i.phase c.args.self.now c.self.view_is c.requires

pub returns-in_err-add_page-clause-same : goal.returns-in_err-add_page-clause-same
returns-in_err-add_page-clause-same c =
    let i = c.self.inside in on_err c.from_residual.result _ (page_kept i.host i.settings i.node i.phase c.args.self.now c.self.view_is c.add_page.new.phase (c.in_err-add_page.ensures.same i.node))

pub returns-clause-ok : goal.returns-clause-ok
returns-clause-ok c =
    let i = c.self.inside in page_put i.host i.settings i.node i.phase c.args.self.now c.self.view_is c.add_page.new.phase c.args.more (c.in_ok-add_page.ensures.ok i.node)

pub invariant_of-self : goal.invariant_of-self
invariant_of-self c = let i = c.self.inside in (c.self.invariant.0, c.add_page.ensures.node i.node c.self.invariant.1)

pub invariant_of-self-2 : goal.invariant_of-self-2
invariant_of-self-2 c = let i = c.self.inside in (c.self.invariant.0, c.add_page.ensures.node i.node c.self.invariant.1)
