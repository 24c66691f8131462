use Rattle.plan_groups.proofs.GroupsSpare.{group_created_spares, group_deleted_spares, group_updated_spares, rule_created_spares, rule_deleted_spares}
use Rattle.apart_laws.proofs.Steps.{spares_all}
use Rattle.plan_groups.proofs.laws.group_calls_spare_others.Goals as goal

pub returns-clause-created : goal.returns-clause-created
returns-clause-created c settings form state caller rows reply known tenant named h =
    spares_all caller.project state.rows rows (group_created_spares settings state caller form rows reply tenant known h)

pub returns-clause-updated : goal.returns-clause-updated
returns-clause-updated c name form state caller rows reply known tenant named h =
    spares_all caller.project state.rows rows (group_updated_spares state caller name form rows reply tenant known h)

pub returns-clause-deleted : goal.returns-clause-deleted
returns-clause-deleted c name state caller rows reply known tenant named h =
    spares_all caller.project state.rows rows (group_deleted_spares state caller name rows reply tenant known h)

pub returns-clause-rule_created : goal.returns-clause-rule_created
returns-clause-rule_created c settings form state caller rows reply known tenant named h =
    spares_all caller.project state.rows rows (rule_created_spares settings state caller form rows reply tenant known h)

pub returns-clause-rule_deleted : goal.returns-clause-rule_deleted
returns-clause-rule_deleted c name state caller rows reply known tenant named h =
    spares_all caller.project state.rows rows (rule_deleted_spares state caller name rows reply tenant known h)
