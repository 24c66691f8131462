use Rattle.std.proofs.Common.{◌∙◌, map}
use Rattle.std.specs.List.{filter}
use Rattle.api_types.specs.declared.network.NetworkRow.{NetworkRow}
use Rattle.plane_types.specs.NewTags.{tagged_networks}
use Rattle.l2_agent.proofs.tags.find_tagged.Goals as goal

pub returns : goal.returns
unfolding tagged_networks
returns c = c.in_ok-ids.ensures ∙ (λ j. map (λ (n : NetworkRow). n.id) (filter (λ (n : NetworkRow). c.in_ok-here.ensures n.id j) c.args.rows.now.networks))
