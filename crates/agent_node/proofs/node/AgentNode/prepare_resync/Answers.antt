use Rattle.std.proofs.Common.{sym, subst}
use Rattle.plane_types.specs.NewTags.{AreTags}
use Rattle.plane_types.proofs.RealisedTags.{are_tags}
use Rattle.agent_node.proofs.node.AgentNode.prepare_resync.Goals as goal

pub make-requires-clause-tags : goal.make-requires-clause-tags
make-requires-clause-tags c =
    let node = c.self.inside in
    subst AreTags (sym c.in_ok-old.ensures) (are_tags node.rows node.name node.tables.lists.tags c.self.invariant.realised.tags)
