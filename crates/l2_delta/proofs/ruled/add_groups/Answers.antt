use Rattle.std.proofs.Common.{◌≡◌, ◌∙◌, ap, get_or}
use Rattle.table_edits.specs.NumbersSeen.{at_after, at_before}
use Rattle.l2_delta.specs.Filtered.{is_group}
use Rattle.l2_delta.proofs.ChangedGroups.{one_left}
use Rattle.l2_delta.proofs.CoverLemmas.{at_place}
use Rattle.l2_delta.proofs.ruled.add_groups.Goals as goal

pub loop-number-init : goal.loop-number-init
loop-number-init c = λ i off k away. ap (is_group i) (c.named-number-items.ensures k away)

pub loop-number-preserved : goal.loop-number-preserved
loop-number-preserved c = λ i off k away.
    let groups = c.args.groups.now in
    let numbers = c.named-number-items.result.now in
    let place = c.loop-number.number-index in
    one_left (λ k. is_group i (at_before groups k) ≡ is_group i (at_after groups k)) numbers place c.loop-number-test.true
    (ap (is_group i) (at_place groups.rows (get_or numbers place 0)) ∙ c.in_ok-add_group_at.ensures.tells i off)
    (c.loop-number.invariant i (c.in_ok-add_group_at.ensures.keeps i off)) k away
