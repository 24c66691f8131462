use Rattle.kept_laws.proofs.TypedKept.{are_kept}
use Rattle.plan_routers.proofs.RouterLeaves.{router_deleted_kept}
use Rattle.plan_routers.proofs.RoutersKept.{router_created_kept, router_updated_kept}
use Rattle.plan_routers.proofs.laws.router_calls_keep.Goals as goal

pub returns-clause-created : goal.returns-clause-created
returns-clause-created c settings form state caller rows reply known typed in_form h =
    are_kept settings state.rows rows typed (router_created_kept settings state caller form rows reply known typed in_form.formed h)

pub returns-clause-updated : goal.returns-clause-updated
returns-clause-updated c settings name form state caller rows reply known typed in_form h =
    are_kept settings state.rows rows typed (router_updated_kept settings state caller name form rows reply known typed in_form.formed h)

pub returns-clause-deleted : goal.returns-clause-deleted
returns-clause-deleted c settings name state caller rows reply known typed in_form h =
    are_kept settings state.rows rows typed (router_deleted_kept settings state caller name rows reply known h)
