use Rattle.table_edits.proofs.KindsAfter.{networks_fit}
use Rattle.l2_delta.proofs.delta.network_edits.Goals as goal

pub of-requires : goal.of-requires
of-requires c =
    let change = c.args.change.now in
    networks_fit change.before.now change.items.now change.leads_on.fits
