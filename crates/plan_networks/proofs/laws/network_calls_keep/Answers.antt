use Rattle.kept_laws.proofs.TypedKept.{are_kept}
use Rattle.plan_networks.proofs.NetworksKept.{network_created_kept, network_deleted_kept, network_updated_kept}
use Rattle.plan_networks.proofs.laws.network_calls_keep.Goals as goal

pub returns-clause-created : goal.returns-clause-created
returns-clause-created c settings form rules state caller rows reply known typed in_form h =
    are_kept settings state.rows rows typed (network_created_kept settings state caller form rows reply rules known in_form.formed h)

pub returns-clause-updated : goal.returns-clause-updated
returns-clause-updated c settings name form state caller rows reply known typed in_form h =
    are_kept settings state.rows rows typed (network_updated_kept settings state caller name form rows reply known h)

pub returns-clause-deleted : goal.returns-clause-deleted
returns-clause-deleted c settings name state caller rows reply known typed in_form h =
    are_kept settings state.rows rows typed (network_deleted_kept settings state caller name rows reply known h)
