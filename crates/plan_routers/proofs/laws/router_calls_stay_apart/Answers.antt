use Rattle.plan_routers.proofs.RouterCallsApart.{router_created_apart, router_deleted_apart, router_updated_apart}
use Rattle.plan_routers.proofs.laws.router_calls_stay_apart.Goals as goal

pub returns-clause-created : goal.returns-clause-created
returns-clause-created c settings form caller s t tenant named known other same =
    router_created_apart settings caller tenant named s t known other same form

pub returns-clause-updated : goal.returns-clause-updated
returns-clause-updated c settings name form caller s t tenant named known other same =
    router_updated_apart settings caller tenant named s t known other same name form

pub returns-clause-deleted : goal.returns-clause-deleted
returns-clause-deleted c settings name caller s t tenant named known other same =
    router_deleted_apart settings caller tenant named s t known other same name
