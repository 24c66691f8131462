use Rattle.std.proofs.Common.{◌≡◌, ◌∙◌, ap, subst}
use Rattle.plane_types.specs.Delta.{with_delta}
use Rattle.plane_types.specs.NewTags.{new_tags}
use Rattle.plane_types.specs.Node.{Node}
use Rattle.plane_types.specs.TableRows.{bridge_rows, inward_rows, lease_rows, neighbour_rows, router_rows, tap_rows}
use Rattle.plane_types.specs.TablesOfRows.{tables_of_rows}
use Rattle.plane_types.specs.declared.delta.Delta.{Delta}
use Rattle.agent_node.proofs.node.AgentNode.touched_delta.Goals as goal

pub returns-clause-leads : goal.returns-clause-leads
unfolding tables_of_rows
returns-clause-leads c =
    let rows = c.args.after.now in
    let host = c.self.inside.name in
    let l2 = c.in_ok-l2.ensures in
    let l3 = c.in_ok-l3.ensures in
    let tags : c.in_ok-l2.l2.tags ≡ new_tags rows host c.self.inside.tables.lists.tags = l2.tags in
    let d : Delta = record { l2 = c.in_ok-l2.l2; l3 = c.in_ok-l3.l3; dhcp = c.in_ok-dhcp.dhcp } in
    subst (λ (n : Node). with_delta n.agent.tables d ≡ tables_of_rows rows n.agent.name n.agent.tables.tags) c.self.view_is (λ j. record {
      tags = (l2.tag_edits.leads ∙ tags) j;
      taps = (l2.taps.leads ∙ ap (tap_rows rows host) tags) j;
      filters = l2.filters.leads j;
      sets = l2.sets.leads j;
      bridge = (l2.bridge.leads ∙ ap (bridge_rows rows host) tags) j;
      inward = (l2.inward.leads ∙ ap (inward_rows rows) tags) j;
      neighbours = (l2.neighbours.leads ∙ ap (neighbour_rows rows host) tags) j;
      routers = (l3.routers.leads ∙ ap (router_rows rows host) tags) j;
      routes = l3.routes.leads j;
      floats = l3.floats.leads j;
      leases = (c.in_ok-dhcp.ensures.leads ∙ ap (lease_rows rows host) tags) j;
    })
