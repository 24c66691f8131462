use Rattle.std.proofs.Common.{◌∙◌}
use Rattle.plane_types.specs.NewTags.{free_tags, in_turn, kept_tags, new_tags}
use Rattle.l2_agent.proofs.FreeLemmas.{free_alike}
use Rattle.l2_agent.proofs.tags.assign_tags.Goals as goal

pub returns : goal.returns
unfolding new_tags
returns c =
    let rows = c.args.rows.now in
    let old = c.in_ok-old.ensures in
    let networks = c.as_slice.ensures.value ∙ c.in_ok-networks.ensures in
    let same = c.as_slice-2.ensures.value ∙ c.in_ok-networks.ensures in
    let free = free_alike c.in_ok-kept.kept _ c.in_ok-kept.ensures ∙ (λ j. free_tags (kept_tags (old j) (networks j))) in
    c.in_ok-tags.ensures ∙ (λ j. in_turn rows (old j) (free j) (same j))
