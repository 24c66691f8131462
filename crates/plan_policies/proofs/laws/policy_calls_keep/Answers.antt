use Rattle.kept_laws.proofs.TypedKept.{are_kept}
use Rattle.plan_policies.proofs.PolicyKept.{created_kept, deleted_kept, updated_kept}
use Rattle.plan_policies.proofs.laws.policy_calls_keep.Goals as goal

pub returns-clause-created : goal.returns-clause-created
returns-clause-created c settings form state caller rows reply known typed in_form h =
    are_kept settings state.rows rows typed (created_kept settings state caller form rows reply known in_form.formed h)

pub returns-clause-updated : goal.returns-clause-updated
returns-clause-updated c settings name form state caller rows reply known typed in_form h =
    are_kept settings state.rows rows typed (updated_kept settings state caller name form rows reply known h)

pub returns-clause-deleted : goal.returns-clause-deleted
returns-clause-deleted c settings name state caller rows reply known typed in_form h =
    are_kept settings state.rows rows typed (deleted_kept settings state caller name rows reply known h)
