use Rattle.plan_routers.proofs.InterfacesApart.{interface_added_apart, interface_removed_apart}
use Rattle.plan_routers.proofs.laws.interface_calls_stay_apart.Goals as goal

pub returns-clause-added : goal.returns-clause-added
returns-clause-added c settings name by caller s t tenant named known other same =
    interface_added_apart settings caller tenant named s t known other same name by

pub returns-clause-removed : goal.returns-clause-removed
returns-clause-removed c settings name by caller s t tenant named known other same =
    interface_removed_apart settings caller tenant named s t known other same name by
