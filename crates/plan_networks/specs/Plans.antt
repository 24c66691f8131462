-- What forbids the creation of a network, part by part.
use Rattle.api_ml2.specs.Segments.{asked_segment, chosen_segment, is_bad_number, is_bad_physical, segment_in_use}
use Rattle.api_policy.specs.Permits.{admin_only}
use Rattle.api_policy.specs.Quotas.{over_quota}
use Rattle.api_types.specs.Given.{are_unlike}
use Rattle.api_types.specs.Refusing.{first_refusal, when}
use Rattle.api_types.specs.RowLists.{RowLists}
use Rattle.api_types.specs.declared.call.Caller.{Caller}
use Rattle.api_types.specs.declared.form.NetworkForm.{NetworkForm}
use Rattle.api_types.specs.declared.kind.Kind.TheVariants.{Network as NetworkKind}
use Rattle.api_types.specs.declared.refusal.Refusal.TheVariants.{Invalid, NoNetwork}
use Rattle.api_types.specs.declared.refusal.Refusal.{Refusal}
use Rattle.net_settings.specs.Settings.{SettingsParts}
use Rattle.plan_networks.specs.NetworkCalls.{creation_refusal}
use Rattle.plan_networks.specs.NetworkRules.{bad_wire}
use Rattle.std.specs.Option.{option_or}
use Rattle.std.specs.Prelude.{List, Option, [], codes, is_none, ◌∷◌}
use Rattle.net_addr.specs.Words.{Text}
use Rattle.api_policy.specs.Reserved.{network_for_admin}

-- of what forbids a creation: what the body alone does, and what the rows do
abbrev pub body_refusals : SettingsParts → Caller → NetworkForm → List (Option Refusal)
body_refusals settings caller form =
    when (is_bad_physical form) (Invalid (codes "provider:physical_network"))
    ∷ when (is_bad_number form) (Invalid (codes "provider:segmentation_id"))
    ∷ when (are_unlike form.project_id form.tenant_id) (Invalid (codes "tenant_id"))
    ∷ bad_wire settings form
    ∷ admin_only caller (network_for_admin caller form)
    ∷ []

abbrev pub body_refusal : SettingsParts → Caller → NetworkForm → Option Refusal
body_refusal settings caller form = first_refusal (body_refusals settings caller form)

abbrev pub rows_refusals : SettingsParts → RowLists → NetworkForm → Text → List (Option Refusal)
rows_refusals settings rows form owner =
    segment_in_use rows.networks (asked_segment form)
    ∷ over_quota settings rows owner NetworkKind
    ∷ []

abbrev pub rows_refusal : SettingsParts → RowLists → NetworkForm → Text → Option Refusal
rows_refusal settings rows form owner = first_refusal (rows_refusals settings rows form owner)

-- and then there has to be a segment
abbrev pub segment_refusal : SettingsParts → RowLists → Caller → NetworkForm → Text
    → Option Refusal
segment_refusal settings rows caller form owner =
    option_or (creation_refusal settings rows caller form owner)
    (when (is_none (chosen_segment settings rows.networks (asked_segment form))) NoNetwork)
