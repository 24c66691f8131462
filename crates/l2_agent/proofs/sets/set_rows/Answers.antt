use Rattle.std.proofs.Common.{◌∙◌, flat_map}
use Rattle.api_types.specs.declared.group.GroupRow.{GroupRow}
use Rattle.plane_types.specs.TableRows.{set_rows}
use Rattle.l2_agent.specs.Among.{set_if}
use Rattle.l2_agent.proofs.sets.set_rows.Goals as goal

pub returns : goal.returns
unfolding set_rows
returns c =
    let rows = c.in_ok-ports.ensures in
    c.in_ok-sets.ensures ∙ (λ j. flat_map (λ (g : GroupRow). set_if (rows j) (c.in_ok-remote.ensures g.id j) g) (rows j).groups)
