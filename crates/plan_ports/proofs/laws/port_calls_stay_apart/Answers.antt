use Rattle.plan_ports.proofs.PortCallsApart.{port_created_apart, port_deleted_apart, port_updated_apart}
use Rattle.plan_ports.proofs.laws.port_calls_stay_apart.Goals as goal

pub returns-clause-created : goal.returns-clause-created
returns-clause-created c settings form caller s t tenant named known other same =
    port_created_apart settings caller tenant s t known other same named form

pub returns-clause-updated : goal.returns-clause-updated
returns-clause-updated c settings name form caller s t tenant named known other same =
    port_updated_apart settings caller tenant s t known other same name form

pub returns-clause-deleted : goal.returns-clause-deleted
returns-clause-deleted c settings name caller s t tenant named known other same =
    port_deleted_apart settings caller tenant s t known other same name
