use Rattle.plan_routers.proofs.InterfacesSpare.{interface_added_spares, interface_removed_stays}
use Rattle.apart_laws.proofs.Steps.{spares_all}
use Rattle.plan_routers.proofs.laws.interface_calls_spare_others.Goals as goal

pub returns-clause-added : goal.returns-clause-added
returns-clause-added c settings name by state caller rows reply known tenant named h =
    spares_all caller.project state.rows rows (interface_added_spares settings state caller name by rows reply tenant known h)

pub returns-clause-removed : goal.returns-clause-removed
returns-clause-removed c name by state caller rows reply known tenant named h =
    interface_removed_stays state caller name by rows reply tenant known h
