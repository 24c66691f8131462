use Rattle.plan_groups.proofs.GroupsApart.{group_created_apart, group_deleted_apart, group_updated_apart, rule_created_apart, rule_deleted_apart}
use Rattle.plan_groups.proofs.laws.group_calls_stay_apart.Goals as goal

pub returns-clause-created : goal.returns-clause-created
returns-clause-created c settings form caller s t tenant named known other same =
    group_created_apart settings caller tenant s t same named known other form

pub returns-clause-updated : goal.returns-clause-updated
returns-clause-updated c settings name form caller s t tenant named known other same =
    group_updated_apart settings caller tenant s t same known other name form

pub returns-clause-deleted : goal.returns-clause-deleted
returns-clause-deleted c settings name caller s t tenant named known other same =
    group_deleted_apart settings caller tenant s t same known other name

pub returns-clause-rule_created : goal.returns-clause-rule_created
returns-clause-rule_created c settings form caller s t tenant named known other same =
    rule_created_apart settings caller tenant s t same form

pub returns-clause-rule_deleted : goal.returns-clause-rule_deleted
returns-clause-rule_deleted c settings name caller s t tenant named known other same =
    rule_deleted_apart settings caller tenant s t same name
