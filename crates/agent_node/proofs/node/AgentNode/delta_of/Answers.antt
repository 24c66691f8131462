use Rattle.std.proofs.Common.{◌≡◌, ◌∙◌, ap, subst, sym}
use Rattle.plane_types.specs.Delta.{with_delta}
use Rattle.plane_types.specs.Node.{Node}
use Rattle.plane_types.specs.TablesOfRows.{tables_of_rows}
use Rattle.table_edits.specs.Rewires.{LeadsOn}
use Rattle.agent_node.specs.Rewired.{AreFewFor}
use Rattle.agent_node.specs.Still.{AreStill}
use Rattle.agent_node.proofs.NoFew.{none_few_for}
use Rattle.agent_node.proofs.StillTables.{tables_stay}
use Rattle.agent_node.proofs.node.AgentNode.delta_of.Goals as goal

pub returns-then-are_still-clause-leads : goal.returns-then-are_still-clause-leads
returns-then-are_still-clause-leads c =
    let rows = c.args.after.now in
    let items = c.args.change.now in
    let node = c.self.inside in
    let still = subst AreStill c.as_slice.ensures (c.are_still.ensures c.if-are_still.true) in
    let leads_on =
    subst (λ (n : Node). LeadsOn n.agent.rows items rows) (sym c.self.view_is) c.requires in
    subst
    (λ (n : Node). with_delta n.agent.tables c.no_edits.result
    ≡ tables_of_rows rows n.agent.name n.agent.tables.tags)
    c.self.view_is
    (ap (with_delta node.tables.lists) c.no_edits.ensures
    ∙ tables_stay node.rows rows items node.name node.tables.lists leads_on still
    c.self.invariant.realised)

pub returns-then-are_still-clause-few : goal.returns-then-are_still-clause-few
returns-then-are_still-clause-few c =
    let a = c.args.self.now.agent in
    subst (AreFewFor a c.args.change.now c.args.after.now) (sym c.no_edits.ensures)
    (none_few_for a c.args.change.now c.args.after.now)
