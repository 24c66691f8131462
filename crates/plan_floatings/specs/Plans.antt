-- What is refused of calls on floating addresses, part by part, and what they lead to.
use Rattle.api_ipam.specs.MacChoice.{free_mac}
use Rattle.api_types.specs.Association.{Aim, router_for, target_by, with_target}
use Rattle.api_types.specs.Given.{are_unlike, is_for_other, value_of}
use Rattle.api_types.specs.Ident.{Ident}
use Rattle.api_types.specs.Outcome.{Outcome}
use Rattle.api_types.specs.Refusing.{first_refusal, unless, when}
use Rattle.api_types.specs.RowLists.{RowLists}
use Rattle.api_types.specs.declared.call.Caller.{Caller}
use Rattle.api_types.specs.declared.floating.Target.{Target}
use Rattle.api_types.specs.declared.form.FloatingForm.{FloatingForm}
use Rattle.api_types.specs.declared.network.NetworkRow.{NetworkRow}
use Rattle.api_types.specs.declared.refusal.Refusal.TheVariants.{CountersSpent, Invalid, NoGateway, PoolsSpent}
use Rattle.api_types.specs.declared.refusal.Refusal.{Refusal}
use Rattle.call_parts.specs.State.{State}
use Rattle.net_settings.specs.Settings.{SettingsParts}
use Rattle.plan_floatings.specs.FloatingCalls.{aim_asked, creation_refusal, floating_with, lacks_port, outer_address, port_asked}
use Rattle.plan_floatings.specs.FloatingRules.{bad_address, bad_aim, bad_outside}
use Rattle.std.specs.Prelude.{None, Option, [], codes, if◌then◌else◌, is_none, not, option_and_then, option_map, ℕ, ◌&&◌, ◌∷◌}
use Rattle.net_addr.specs.Words.{Text}

-- of the body alone
abbrev pub lacking_refusal : FloatingForm → Option Refusal
lacking_refusal form = when (lacks_port form) (Invalid (codes "fixed_ip_address"))

abbrev pub form_refusal : FloatingForm → Option Refusal
form_refusal form =
    first_refusal (lacking_refusal form
    ∷ when (are_unlike form.project_id form.tenant_id) (Invalid (codes "tenant_id")) ∷ [])

-- by the rules that speak of rows
abbrev pub rows_refusal : RowLists → Caller → FloatingForm → Text → Option NetworkRow
    → Option Refusal
rows_refusal rows caller form owner n = first_refusal (
    (if not caller.admin && is_for_other caller form.project_id form.tenant_id then None
    else option_and_then (bad_outside rows owner) n)
    ∷ option_and_then (bad_address rows (value_of form.floating_ip_address)) n
    ∷ option_and_then (bad_aim owner (value_of form.fixed_ip_address))
    (port_asked rows caller form)
    ∷ [])

-- of a new one that nothing else forbids: there has to be an address, and a MAC address for its
-- port
abbrev pub outer_refusal : RowLists → Ident → Option ℕ → Option Refusal
outer_refusal rows network address = first_refusal (
    when (is_none (outer_address rows network address)) (PoolsSpent network)
    ∷ when (is_none (free_mac rows.ports network)) CountersSpent
    ∷ [])

-- no router of the project joins the subnet of the aim to the network
abbrev pub unjoined_aim : RowLists → Text → Ident → Aim → Option Refusal
unjoined_aim rows project network aim =
    when (is_none (router_for rows project network aim.fixed.subnet))
    (NoGateway network aim.fixed.subnet)

abbrev pub unjoined : RowLists → Text → Ident → Option Aim → Option Refusal
unjoined rows project network aim = option_and_then (unjoined_aim rows project network) aim

-- the target of the aim, by the first router that joins
abbrev pub target_at : RowLists → Text → Ident → Aim → Option Target
target_at rows project network aim =
    option_map (target_by aim) (router_for rows project network aim.fixed.subnet)

abbrev pub target_of : RowLists → Text → Ident → Option Aim → Option Target
target_of rows project network aim = option_and_then (target_at rows project network) aim

-- what a floating address comes to on a network that is found, and then where nothing on rows
-- forbids it
abbrev pub floating_led : SettingsParts → State → Caller → FloatingForm → Text → NetworkRow
    → Outcome
floating_led settings state caller form owner n =
    with_target state.rows owner n.id (aim_asked state.rows caller form)
    (floating_with settings state caller form owner n)

abbrev pub floating_on : SettingsParts → State → Caller → FloatingForm → Text → NetworkRow
    → Outcome
floating_on settings state caller form owner n =
    unless (creation_refusal state.rows caller form n)
    (floating_led settings state caller form owner n)
