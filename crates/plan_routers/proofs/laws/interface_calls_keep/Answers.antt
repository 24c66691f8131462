use Rattle.kept_laws.proofs.TypedKept.{are_kept}
use Rattle.plan_routers.proofs.InterfacesKept.{interface_added_kept}
use Rattle.plan_routers.proofs.RouterLeaves.{interface_removed_kept}
use Rattle.plan_routers.proofs.laws.interface_calls_keep.Goals as goal

pub returns-clause-added : goal.returns-clause-added
returns-clause-added c settings name by state caller rows reply known typed in_form h =
    are_kept settings state.rows rows typed (interface_added_kept settings state caller name by rows reply known h)

pub returns-clause-removed : goal.returns-clause-removed
returns-clause-removed c settings name by state caller rows reply known typed in_form h =
    are_kept settings state.rows rows typed (interface_removed_kept settings state caller name by rows reply known h)
