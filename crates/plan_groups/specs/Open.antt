-- When nothing forbids a rule in a group, but that no id may be left.
use Rattle.api_policy.specs.Seen.{group_seen}
use Rattle.api_types.specs.Given.{value_of}
use Rattle.api_types.specs.RowLists.{RowLists}
use Rattle.api_types.specs.declared.call.Caller.{Caller}
use Rattle.api_types.specs.declared.form.RuleForm.{RuleForm}
use Rattle.api_types.specs.declared.group.GroupRow.{GroupRow}
use Rattle.call_parts.specs.BodyNames.{no_id}
use Rattle.net_settings.specs.Settings.{SettingsParts}
use Rattle.plan_groups.specs.GroupCalls.{rule_body_refusal, rule_creation_refusal}
use Rattle.api_secgroup.specs.RuleParts.{new_rule}
use Rattle.std.specs.Prelude.{None, Some, ◌≡◌}

pub record IsOpen (settings : SettingsParts) (rows : RowLists) (caller : Caller) (form : RuleForm)
    (g : GroupRow) : Type 0 where
  pub seen : group_seen rows caller (value_of form.security_group_id) ≡ Some g
  pub body : rule_body_refusal rows caller form (Some g) ≡ None
  pub free : rule_creation_refusal settings rows caller g (new_rule form g no_id) ≡ None
