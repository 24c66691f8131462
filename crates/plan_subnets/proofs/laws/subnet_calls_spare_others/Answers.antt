use Rattle.plan_subnets.proofs.SubnetsSpare.{subnet_created_spares, subnet_deleted_spares, subnet_updated_spares}
use Rattle.apart_laws.proofs.Steps.{spares_all}
use Rattle.plan_subnets.proofs.laws.subnet_calls_spare_others.Goals as goal

pub returns-clause-created : goal.returns-clause-created
returns-clause-created c settings form state caller rows reply known tenant named h =
    spares_all caller.project state.rows rows (subnet_created_spares settings state caller form rows reply tenant known h)

pub returns-clause-updated : goal.returns-clause-updated
returns-clause-updated c settings name form state caller rows reply known tenant named h =
    spares_all caller.project state.rows rows (subnet_updated_spares settings state caller name form rows reply tenant known h)

pub returns-clause-deleted : goal.returns-clause-deleted
returns-clause-deleted c name state caller rows reply known tenant named h =
    spares_all caller.project state.rows rows (subnet_deleted_spares state caller name rows reply tenant known h)
