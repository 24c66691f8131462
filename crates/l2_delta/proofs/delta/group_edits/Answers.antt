use Rattle.table_edits.proofs.KindsAfter.{groups_fit, rules_fit}
use Rattle.l2_delta.proofs.delta.group_edits.Goals as goal

pub of-requires : goal.of-requires
of-requires c =
    let change = c.args.change.now in
    groups_fit change.before.now change.items.now change.leads_on.fits

pub of-requires-2 : goal.of-requires-2
of-requires-2 c =
    let change = c.args.change.now in
    rules_fit change.before.now change.items.now change.leads_on.fits
