use Rattle.std.proofs.Common.{◌≡◌, ◌∙◌, List, ap, subst, sym}
use Rattle.std.specs.List.{filter}
use Rattle.std.specs.List.Sorted.{IsSortedBy}
use Rattle.plane_types.specs.Attached.{IsAttached, is_attached}
use Rattle.plane_types.specs.Delta.{with_delta}
use Rattle.plane_types.specs.Hosts.{bridge_before, neighbour_before}
use Rattle.plane_types.specs.Node.{Node}
use Rattle.plane_types.specs.Realises.{Realises}
use Rattle.plane_types.specs.TablesOfRows.{tables_of_rows}
use Rattle.plane_types.specs.declared.entry.Entry.{Entry}
use Rattle.plane_types.specs.declared.lists.TableLists.{TableLists}
use Rattle.plane_types.proofs.PlacedLemmas.{stay_placed}
use Rattle.plane_types.proofs.RealisedTags.{are_tags}
use Rattle.agent_node.specs.Rewired.{rewired}
use Rattle.agent_node.proofs.MadeTables.{bridge_in_order, neighbours_in_order, tables_realise}
use Rattle.agent_node.proofs.PutLemmas.{entries_stay}
use Rattle.agent_node.proofs.node.AgentNode.rewire.Goals as goal

pub apply-requires-clause-bridge : goal.apply-requires-clause-bridge
apply-requires-clause-bridge g c =
    let node = c.self.inside in
    let rows = c.args.ready.rows in
    let leads : with_delta node.tables.lists c.args.ready.delta ≡ tables_of_rows rows node.name node.tables.lists.tags =
    subst (λ (n : Node). with_delta n.agent.tables c.args.ready.delta ≡ tables_of_rows rows n.agent.name n.agent.tables.tags) (sym c.self.view_is) c.requires.leads in
    subst (IsSortedBy bridge_before) (sym (λ j. (leads j).bridge)) (bridge_in_order rows node.name node.tables.lists.tags)

pub apply-requires-clause-neighbours : goal.apply-requires-clause-neighbours
apply-requires-clause-neighbours g c =
    let node = c.self.inside in
    let rows = c.args.ready.rows in
    let leads : with_delta node.tables.lists c.args.ready.delta ≡ tables_of_rows rows node.name node.tables.lists.tags =
    subst (λ (n : Node). with_delta n.agent.tables c.args.ready.delta ≡ tables_of_rows rows n.agent.name n.agent.tables.tags) (sym c.self.view_is) c.requires.leads in
    subst (IsSortedBy neighbour_before) (sym (λ j. (leads j).neighbours)) (neighbours_in_order rows node.name node.tables.lists.tags)

pub drop_parted-requires : goal.drop_parted-requires
drop_parted-requires g c = λ whole.
    let node = c.self.inside in
    let rows = c.args.ready.rows in
    let d = c.args.ready.delta in
    let leads : with_delta node.tables.lists d ≡ tables_of_rows rows node.name node.tables.lists.tags =
    subst (λ (n : Node). with_delta n.agent.tables d ≡ tables_of_rows rows n.agent.name n.agent.tables.tags) (sym c.self.view_is) c.requires.leads in
    let now : c.apply.new.self.lists ≡ tables_of_rows rows node.name node.tables.lists.tags = c.apply.ensures.lists ∙ leads in
    entries_stay node.tables.lists c.apply.new.self.lists d.l2.taps d.l3.routers node.entries.items (sym c.may_part-parts.ensures ∙ whole) (λ j. (sym c.apply.ensures.lists j).taps) (λ j. (sym c.apply.ensures.lists j).routers) c.self.invariant.placed.stand

pub invariant_of-self : goal.invariant_of-self
invariant_of-self g c =
    let node = c.self.inside in
    let rows = c.args.ready.rows in
    let d = c.args.ready.delta in
    let old = node.tables.lists in
    let leads : with_delta old d ≡ tables_of_rows rows node.name old.tags =
    subst (λ (n : Node). with_delta n.agent.tables d ≡ tables_of_rows rows n.agent.name n.agent.tables.tags) (sym c.self.view_is) c.requires.leads in
    let now : c.apply.new.self.lists ≡ tables_of_rows rows node.name old.tags = c.apply.ensures.lists ∙ leads in
    record {
      consistent = c.requires.consistent;
      realised = subst (Realises rows node.name) (sym now) (tables_realise rows node.name old.tags (are_tags node.rows node.name old.tags c.self.invariant.realised.tags) c.requires.consistent);
      placed = subst (λ (es : List Entry). IsAttached (record { name = node.name; tables = c.apply.new.self.lists; entries = es })) (sym c.drop_parted.ensures.items) (stay_placed node.name old c.apply.new.self.lists node.entries.items c.self.invariant.placed);
    }

pub returns-clause-agent : goal.returns-clause-agent
returns-clause-agent g c =
    let node = c.self.inside in
    let rows = c.args.ready.rows in
    let d = c.args.ready.delta in
    let old = node.tables.lists in
    let leads : with_delta old d ≡ tables_of_rows rows node.name old.tags =
    subst (λ (n : Node). with_delta n.agent.tables d ≡ tables_of_rows rows n.agent.name n.agent.tables.tags) (sym c.self.view_is) c.requires.leads in
    let now : c.apply.new.self.lists ≡ tables_of_rows rows node.name old.tags = c.apply.ensures.lists ∙ leads in
    let left : c.drop_parted.new.entries.items ≡ filter (is_attached (tables_of_rows rows node.name old.tags)) node.entries.items =
    c.drop_parted.ensures.items ∙ ap (λ (t : TableLists). filter (is_attached t) node.entries.items) now in
    (λ j. record { name = node.name; held = node.held; version = node.version; rows = rows; tables = now j; entries = left j }) ∙ ap (λ (n : Node). rewired rows n.agent) c.self.view_is
