use Rattle.std.proofs.Common.{◌≡◌, ◌∙◌, ap, List, Some, sym, subst}
use Rattle.std.specs.List.{filter}
use Rattle.plane_types.specs.Attached.{IsAttached, is_attached}
use Rattle.plane_types.specs.Realises.{Realises}
use Rattle.plane_types.specs.TablesOfRows.{tables_of_rows}
use Rattle.plane_types.specs.declared.entry.Entry.{Entry}
use Rattle.plane_types.specs.Node.{Agent, Node, Ready}
use Rattle.plane_types.proofs.PlacedLemmas.{stay_placed}
use Rattle.agent_node.proofs.node.AgentNode.put.Goals as goal

pub invariant_of-self : goal.invariant_of-self
invariant_of-self c =
    let node = c.self.inside in
    let ready = c.ready.inside in
    let same : ready.name ≡ node.name =
    ap (λ (r : Ready). r.name) c.ready.view_is ∙ c.requires.name ∙ sym (ap (λ (n : Node). n.agent.name) c.self.view_is) in
    record {
      consistent = c.ready.invariant.consistent;
      realised = subst (λ name. Realises ready.rows name ready.tables.lists) same c.ready.invariant.realised;
      placed = subst (λ (es : List Entry). IsAttached (record { name = node.name; tables = ready.tables.lists; entries = es })) (sym c.keep_attached.ensures.items) (stay_placed node.name node.tables.lists ready.tables.lists node.entries.items c.self.invariant.placed);
    }

pub returns-clause-agent : goal.returns-clause-agent
returns-clause-agent c =
    let agent : Agent = c.args.self.now.agent in
    let ready = c.ready.inside in
    let version_is : ready.version ≡ c.args.ready.version = ap (λ (r : Ready). r.version) c.ready.view_is in
    let rows_are : ready.rows ≡ c.args.ready.rows = ap (λ (r : Ready). r.rows) c.ready.view_is in
    let name_is : ready.name ≡ agent.name = ap (λ (r : Ready). r.name) c.ready.view_is ∙ c.requires.name in
    let tags_are : ready.old ≡ agent.tables.tags = ap (λ (r : Ready). r.old) c.ready.view_is ∙ c.requires.tags in
    let tables_are : ready.tables.lists ≡ tables_of_rows c.args.ready.rows agent.name agent.tables.tags =
    c.ready.invariant.made ∙ (λ j. tables_of_rows (rows_are j) (name_is j) (tags_are j)) in
    let entries_are : c.keep_attached.new.self.items ≡ filter (is_attached (tables_of_rows c.args.ready.rows agent.name agent.tables.tags)) agent.entries =
    c.keep_attached.ensures.items ∙ (λ j. filter (is_attached (tables_are j)) (c.self.view_is j).agent.entries) in
    λ j. record {
      name = (c.self.view_is j).agent.name;
      held = Some (version_is j);
      version = version_is j;
      rows = rows_are j;
      tables = tables_are j;
      entries = entries_are j;
    }
