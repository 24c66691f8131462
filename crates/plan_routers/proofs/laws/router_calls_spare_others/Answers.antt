use Rattle.plan_routers.proofs.RoutersSpare.{router_created_spares, router_deleted_spares, router_updated_spares}
use Rattle.apart_laws.proofs.Steps.{spares_all}
use Rattle.plan_routers.proofs.laws.router_calls_spare_others.Goals as goal

pub returns-clause-created : goal.returns-clause-created
returns-clause-created c settings form state caller rows reply known tenant named h =
    spares_all caller.project state.rows rows (router_created_spares settings state caller form rows reply named known tenant h)

pub returns-clause-updated : goal.returns-clause-updated
returns-clause-updated c settings name form state caller rows reply known tenant named h =
    spares_all caller.project state.rows rows (router_updated_spares settings state caller name form rows reply tenant named known h)

pub returns-clause-deleted : goal.returns-clause-deleted
returns-clause-deleted c name state caller rows reply known tenant named h =
    spares_all caller.project state.rows rows (router_deleted_spares state caller name rows reply tenant known h)
