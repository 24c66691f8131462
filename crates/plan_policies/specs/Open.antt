-- When nothing forbids a policy on a network, but that no id may be left.
use Rattle.api_policy.specs.Seen.{network_seen}
use Rattle.api_types.specs.Given.{are_unlike, owner_of, value_of}
use Rattle.api_types.specs.RowLists.{RowLists}
use Rattle.api_types.specs.declared.call.Caller.{Caller}
use Rattle.api_types.specs.declared.form.PolicyForm.{PolicyForm}
use Rattle.api_types.specs.declared.network.NetworkRow.{NetworkRow}
use Rattle.net_settings.specs.Settings.{SettingsParts}
use Rattle.plan_policies.specs.PolicyCalls.{creation_refusal}
use Rattle.std.specs.Prelude.{None, Some, false, ◌≡◌}

pub record IsOpen (settings : SettingsParts) (rows : RowLists) (caller : Caller)
    (form : PolicyForm) (n : NetworkRow) : Type 0 where
  pub alike : are_unlike form.project_id form.tenant_id ≡ false
  pub seen : network_seen rows caller (value_of form.object_id) ≡ Some n
  pub free : creation_refusal settings rows caller form
      (owner_of caller form.project_id form.tenant_id) n ≡ None
