use Rattle.plan_ports.proofs.PortsSpare.{port_created_spares, port_deleted_stays, port_updated_spares}
use Rattle.apart_laws.proofs.Steps.{spares_all}
use Rattle.plan_ports.proofs.laws.port_calls_spare_others.Goals as goal

pub returns-clause-created : goal.returns-clause-created
returns-clause-created c settings form state caller rows reply known tenant named h =
    spares_all caller.project state.rows rows (port_created_spares settings state caller form rows reply tenant known h)

pub returns-clause-updated : goal.returns-clause-updated
returns-clause-updated c settings name form state caller rows reply known tenant named h =
    spares_all caller.project state.rows rows (port_updated_spares settings state caller name form rows reply tenant known h)

pub returns-clause-deleted : goal.returns-clause-deleted
returns-clause-deleted c name state caller rows reply known tenant named h =
    port_deleted_stays state caller name rows reply tenant known h
