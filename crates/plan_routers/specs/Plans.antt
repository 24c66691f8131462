-- What is refused of calls on routers and their interfaces, part by part.
use Rattle.api_ipam.specs.MacChoice.{free_mac}
use Rattle.api_policy.specs.Permits.{admin_only, owner_only}
use Rattle.api_policy.specs.Quotas.{over_quota}
use Rattle.api_policy.specs.Uses.{floating_in_use, gateway_use, route_in_use}
use Rattle.api_types.specs.Given.{are_unlike}
use Rattle.api_types.specs.Refusing.{first_refusal, when}
use Rattle.api_types.specs.RouterWays.{interfaces_of}
use Rattle.api_types.specs.RowLists.{RowLists}
use Rattle.api_types.specs.declared.call.Caller.{Caller}
use Rattle.api_types.specs.declared.form.RouterForm.{RouterForm}
use Rattle.api_types.specs.declared.kind.Kind.TheVariants.{Network as NetworkKind, Router as RouterKind}
use Rattle.api_types.specs.declared.network.NetworkRow.{NetworkRow}
use Rattle.api_types.specs.declared.port.PortRow.{PortRow}
use Rattle.api_types.specs.declared.refusal.Refusal.TheVariants.{CountersSpent, Invalid, PoolsSpent}
use Rattle.api_types.specs.declared.refusal.Refusal.{Refusal}
use Rattle.api_types.specs.declared.router.RouterRow.{RouterRow}
use Rattle.call_parts.specs.BodyNames.{unless_found}
use Rattle.call_parts.specs.State.{State, is_last}
use Rattle.net_settings.specs.Settings.{SettingsParts}
use Rattle.plan_routers.specs.RouterCalls.{bad_first_gateway, gateway_name, gateway_network, lost_gateway, new_gateway, outer_addresses, outer_taken}
use Rattle.api_router.specs.RouterRules.{bad_gateway, bad_routes}
use Rattle.std.specs.Prelude.{Option, [], codes, is_none, is_some, option_and_then, ◌∷◌}
use Rattle.net_addr.specs.Words.{Text}
use Rattle.api_policy.specs.Reserved.{router_for_admin, snat_asked}

-- of a new router: what its body asks for
abbrev pub first_body_refusal : RowLists → Caller → RouterForm → Text → Option Refusal
first_body_refusal rows caller form owner = first_refusal (
    when (are_unlike form.project_id form.tenant_id) (Invalid (codes "tenant_id"))
    ∷ bad_first_gateway rows caller form owner
    ∷ unless_found NetworkKind (gateway_name form) (gateway_network rows caller form)
    ∷ [])

-- what the policy, the addresses that are held and the quota forbid of it
abbrev pub first_standing_refusal : SettingsParts → RowLists → Caller → RouterForm → Text
    → Option Refusal
first_standing_refusal settings rows caller form owner = first_refusal (
    admin_only caller (router_for_admin caller form)
    ∷ option_and_then (outer_taken rows) (gateway_network rows caller form)
    ∷ over_quota settings rows owner RouterKind
    ∷ [])

-- of a gateway that is set: there have to be addresses for its port, and a MAC address
abbrev pub outer_refusal : RowLists → NetworkRow → Option Refusal
outer_refusal rows n = first_refusal (
    when (is_none (outer_addresses rows n)) (PoolsSpent n.id)
    ∷ when (is_none (free_mac rows.ports n.id)) CountersSpent
    ∷ [])

-- of a router that is changed: what the body asks for
abbrev pub body_refusal : RowLists → Caller → RouterForm → RouterRow → Option Refusal
body_refusal rows caller form old = first_refusal (
    option_and_then (bad_gateway rows old.project (interfaces_of rows.ports old))
    (gateway_network rows caller form)
    ∷ bad_routes rows old form.routes
    ∷ unless_found NetworkKind (gateway_name form) (gateway_network rows caller form)
    ∷ [])

-- what the policy, the uses of a gateway that goes and the addresses that are held forbid of it
abbrev pub standing_refusal : RowLists → Caller → RouterForm → RouterRow → RouterRow
    → Option Refusal
standing_refusal rows caller form old new = first_refusal (
    admin_only caller (is_some (snat_asked form))
    ∷ owner_only caller old.project
    ∷ gateway_use rows caller old new.routes (lost_gateway old.gateway new.gateway)
    ∷ option_and_then (outer_taken rows)
    (new_gateway (gateway_network rows caller form) new.gateway)
    ∷ [])

-- of an interface that goes: its uses
abbrev pub use_refusal : State → Caller → RouterRow → PortRow → Option Refusal
use_refusal state caller r p = first_refusal (
    route_in_use state.rows caller r r.routes p
    ∷ floating_in_use state.rows caller r p
    ∷ when (is_last state) CountersSpent
    ∷ [])
