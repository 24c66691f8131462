use Rattle.kept_laws.proofs.TypedKept.{are_kept}
use Rattle.plan_groups.proofs.RulesKept.{group_created_kept, group_deleted_kept, group_updated_kept, rule_created_kept, rule_deleted_kept}
use Rattle.plan_groups.proofs.laws.group_calls_keep.Goals as goal

pub returns-clause-created : goal.returns-clause-created
returns-clause-created c settings form state caller rows reply known typed in_form h =
    are_kept settings state.rows rows typed (group_created_kept settings state caller form rows reply known in_form.formed h)

pub returns-clause-updated : goal.returns-clause-updated
returns-clause-updated c settings name form state caller rows reply known typed in_form h =
    are_kept settings state.rows rows typed (group_updated_kept settings state caller name form rows reply known h)

pub returns-clause-deleted : goal.returns-clause-deleted
returns-clause-deleted c settings name state caller rows reply known typed in_form h =
    are_kept settings state.rows rows typed (group_deleted_kept settings state caller name rows reply known h)

pub returns-clause-rule_created : goal.returns-clause-rule_created
returns-clause-rule_created c settings form state caller rows reply known typed in_form h =
    are_kept settings state.rows rows typed (rule_created_kept settings state caller form rows reply known h)

pub returns-clause-rule_deleted : goal.returns-clause-rule_deleted
returns-clause-rule_deleted c settings name state caller rows reply known typed in_form h =
    are_kept settings state.rows rows typed (rule_deleted_kept settings state caller name rows reply known h)
