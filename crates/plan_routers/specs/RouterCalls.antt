-- What calls on routers come to (Networking API v2.0, routers; extended attributes of gateways and
-- extra routes).
use Rattle.call_parts.specs.BodyNames.{unless_found}
use Rattle.call_parts.specs.Edits.{Add, Drop, Edit, Put, accepted}
use Rattle.api_ipam.specs.FixedChoice.{addresses_of, gateway_addresses, gateway_euis}
use Rattle.api_types.specs.HeldAddresses.{address_taken, is_address_held, subnets_on}
use Rattle.api_ipam.specs.MacChoice.{expected_mac, free_mac}
use Rattle.api_policy.specs.Permits.{admin_only, owner_only}
use Rattle.api_ml2.specs.Placement.{host_or_none, router_host}
use Rattle.api_policy.specs.Quotas.{over_quota}
use Rattle.api_types.specs.RouterWays.{interfaces_of}
use Rattle.api_router.specs.RouterRules.{bad_gateway, bad_routes}
use Rattle.api_policy.specs.Seen.{network_seen, router_seen}
use Rattle.api_ml2.specs.ServicePorts.{gateway_owner, service_port}
use Rattle.api_policy.specs.Uses.{gateway_use, router_in_use}
use Rattle.api_policy.specs.Routers.{router_members}
use Rattle.api_policy.specs.Shown.{shown_as}
use Rattle.api_types.specs.Given.{are_unlike, is_for_other, owner_of, value_of, value_or}
use Rattle.api_types.specs.Refusing.{first_refusal, needing, not_found, unless, when}
use Rattle.call_parts.specs.State.{State, drawing_at, is_last}
use Rattle.api_types.specs.Ident.{Ident, ident_text}
use Rattle.api_types.specs.Outcome.{Outcome}
use Rattle.api_types.specs.Printed.{NewRow, NoRow, OneRow, ShownRow}
use Rattle.api_types.specs.Registration.{drawn_id}
use Rattle.api_types.specs.RowLists.{RowLists}
use Rattle.api_types.specs.Table.{ident_eq}
use Rattle.api_types.specs.declared.call.Caller.{Caller}
use Rattle.api_types.specs.declared.call.IdText.{IdText}
use Rattle.api_types.specs.declared.form.GatewayAsked.{GatewayAsked}
use Rattle.api_types.specs.declared.form.Given.TheVariants.{Absent, Is, Null}
use Rattle.api_types.specs.declared.form.Given.{Given}
use Rattle.api_types.specs.declared.form.RouterForm.{RouterForm}
use Rattle.api_types.specs.declared.kind.Kind.TheVariants.{Network as NetworkKind, Port as PortKind, Router as RouterKind}
use Rattle.api_types.specs.declared.kind.Row.TheVariants.{Port, Router}
use Rattle.api_types.specs.declared.network.NetworkRow.{NetworkRow}
use Rattle.api_types.specs.declared.port.Fixed.{Fixed}
use Rattle.api_types.specs.declared.port.PortRow.{PortRow}
use Rattle.api_types.specs.declared.refusal.Refusal.TheVariants.{CountersSpent, Invalid, PoolsSpent}
use Rattle.api_types.specs.declared.refusal.Refusal.{Refusal}
use Rattle.api_types.specs.declared.router.Gateway.{Gateway}
use Rattle.api_types.specs.declared.router.RouterRow.{RouterRow}
use Rattle.net_settings.specs.Settings.{SettingsParts}
use Rattle.std.specs.Prelude.{Bool, List, None, Option, Some, [], codes, if◌then◌else◌, is_some, not, option_and_then, option_map, true, unwrap_or, ◌&&◌, ◌++◌, ◌∷◌}
use Rattle.net_addr.specs.Words.{MacAddress, Text}
use Rattle.api_policy.specs.Reserved.{router_for_admin, snat_asked}

abbrev pub router_shown : RowLists → Caller → RouterRow → List Text → ShownRow
router_shown rows caller r fields = shown_as RouterKind caller.admin fields (router_members rows r)

-- the gateway that a body asks for

abbrev pub gateway_name : RouterForm → Option Ident
gateway_name form =
    option_map (λ (a : GatewayAsked). a.network) (value_of form.external_gateway_info)

abbrev pub gateway_network : RowLists → Caller → RouterForm → Option NetworkRow
gateway_network rows caller form = network_seen rows caller (gateway_name form)

-- the addresses of the port on the external network, and the first of them that its MAC address
-- gives and another port holds
abbrev pub outer_mac : RowLists → NetworkRow → MacAddress
outer_mac rows n = expected_mac (free_mac rows.ports n.id)

abbrev pub outer_addresses : RowLists → NetworkRow → Option (List Fixed)
outer_addresses rows n =
    gateway_addresses (λ x. not (is_address_held rows.ports n.id x)) (subnets_on rows.subnets n.id)
    (outer_mac rows n)

abbrev pub outer_taken : RowLists → NetworkRow → Option Refusal
outer_taken rows n =
    address_taken (is_address_held rows.ports n.id) n.id
    (addresses_of (gateway_euis (outer_mac rows n) (subnets_on rows.subnets n.id)))

-- the port, and the router with it
abbrev pub gateway_port : SettingsParts → RouterRow → NetworkRow → Ident → MacAddress → List Fixed
    → PortRow
gateway_port settings r n i mac fixed =
    service_port settings n i [] mac fixed gateway_owner (ident_text r.id) (host_or_none r.host)

abbrev pub with_gateway : RouterRow → Ident → Ident → Bool → RouterRow
with_gateway r network port snat =
    record r { gateway = Some (record { network = network; port = port; snat = snat }) }

abbrev pub gateway_edits : RouterRow → PortRow → Bool → List Edit
gateway_edits r p snat = Add (Port p) ∷ Put (Router (with_gateway r p.network p.id snat)) ∷ []

-- making a router

abbrev pub new_router : SettingsParts → RouterForm → Text → Ident → RouterRow
new_router settings form owner i = record {
  id = i;
  project = owner;
  name = value_or [] form.name;
  description = value_or [] form.description;
  up = value_or true form.admin_state_up;
  host = router_host settings;
  gateway = None;
  routes = [];
}

-- a caller who may not name the project isn't told of what is external to it
abbrev pub bad_first_gateway : RowLists → Caller → RouterForm → Text → Option Refusal
bad_first_gateway rows caller form owner =
    if not caller.admin && is_for_other caller form.project_id form.tenant_id then None
    else option_and_then (bad_gateway rows owner []) (gateway_network rows caller form)

abbrev pub creation_refusal : SettingsParts → RowLists → Caller → RouterForm → Text
    → Option Refusal
creation_refusal settings rows caller form owner = first_refusal (
    when (are_unlike form.project_id form.tenant_id) (Invalid (codes "tenant_id"))
    ∷ bad_first_gateway rows caller form owner
    ∷ unless_found NetworkKind (gateway_name form) (gateway_network rows caller form)
    ∷ admin_only caller (router_for_admin caller form)
    ∷ option_and_then (outer_taken rows) (gateway_network rows caller form)
    ∷ over_quota settings rows owner RouterKind
    ∷ [])

abbrev pub router_added : Caller → RowLists → RouterRow → RouterRow → List Edit → Outcome
router_added caller rows r last edits =
    accepted rows (Add (Router r) ∷ edits) (λ after. NewRow (router_shown after caller last []))

abbrev pub gateway_added : Caller → RowLists → RouterRow → PortRow → Bool → Outcome
gateway_added caller rows r p snat =
    router_added caller rows r (with_gateway r p.network p.id snat) (gateway_edits r p snat)

-- without a gateway, or with one on a network
abbrev pub router_with : SettingsParts → State → Caller → RouterForm → Text → Option NetworkRow
    → Outcome
router_with settings state caller form owner None =
    needing CountersSpent (drawing_at state owner 1) (λ drawing.
    router_added caller drawing.rows (new_router settings form owner (drawn_id drawing 0))
    (new_router settings form owner (drawn_id drawing 0)) [])
router_with settings state caller form owner (Some n) =
    needing (PoolsSpent n.id) (outer_addresses state.rows n) (λ fixed.
    needing CountersSpent (free_mac state.rows.ports n.id) (λ mac.
    needing CountersSpent (drawing_at state owner 2) (λ drawing.
    let r : RouterRow = new_router settings form owner (drawn_id drawing 0) in
    gateway_added caller drawing.rows r (gateway_port settings r n (drawn_id drawing 1) mac fixed)
    (unwrap_or (snat_asked form) true))))

abbrev pub router_made : SettingsParts → State → Caller → RouterForm → Text → Outcome
router_made settings state caller form owner =
    unless (creation_refusal settings state.rows caller form owner)
    (router_with settings state caller form owner (gateway_network state.rows caller form))

abbrev pub router_created : SettingsParts → State → Caller → RouterForm → Outcome
router_created settings state caller form =
    router_made settings state caller form (owner_of caller form.project_id form.tenant_id)

-- changing a router

-- the gateway that stays, where none is asked for or one on the same network
abbrev pub gateway_on : Gateway → GatewayAsked → Option Gateway
gateway_on g a =
    if ident_eq g.network a.network then Some (record g { snat = unwrap_or a.snat g.snat })
    else None

abbrev pub kept_gateway : Option Gateway → Given GatewayAsked → Option Gateway
kept_gateway old Absent = old
kept_gateway old Null = None
kept_gateway old (Is a) = option_and_then (λ g. gateway_on g a) old

-- the gateway that goes, where none stays
abbrev pub lost_gateway : Option Gateway → Option Gateway → Option Gateway
lost_gateway old None = old
lost_gateway old (Some kept) = None

-- the network of a new one
abbrev pub new_gateway : Option NetworkRow → Option Gateway → Option NetworkRow
new_gateway asked None = asked
new_gateway asked (Some kept) = None

abbrev pub old_snat : Option Gateway → Bool
old_snat None = true
old_snat (Some g) = g.snat

abbrev pub changed_router : RouterForm → RouterRow → RouterRow
changed_router form r = record r {
  name = value_or r.name form.name;
  description = value_or r.description form.description;
  up = value_or r.up form.admin_state_up;
  gateway = kept_gateway r.gateway form.external_gateway_info;
  routes = value_or r.routes form.routes;
}

abbrev pub update_refusal : RowLists → Caller → RouterForm → RouterRow → RouterRow → Option Refusal
update_refusal rows caller form old new = first_refusal (
    option_and_then (bad_gateway rows old.project (interfaces_of rows.ports old))
    (gateway_network rows caller form)
    ∷ bad_routes rows old form.routes
    ∷ unless_found NetworkKind (gateway_name form) (gateway_network rows caller form)
    ∷ admin_only caller (is_some (snat_asked form))
    ∷ owner_only caller old.project
    ∷ gateway_use rows caller old new.routes (lost_gateway old.gateway new.gateway)
    ∷ option_and_then (outer_taken rows)
    (new_gateway (gateway_network rows caller form) new.gateway)
    ∷ [])

abbrev pub gateway_gone : Option Gateway → List Edit
gateway_gone None = []
gateway_gone (Some g) = Drop PortKind g.port ∷ []

-- the router with what stays of its gateway, then the port that goes, then a new one
abbrev pub router_replaced : Caller → RowLists → RouterRow → RouterRow → RouterRow → List Edit
    → Outcome
router_replaced caller rows old new last edits =
    accepted rows (Put (Router new) ∷ gateway_gone (lost_gateway old.gateway new.gateway) ++ edits)
    (λ after. OneRow (router_shown after caller last []))

abbrev pub gateway_replaced : Caller → RowLists → RouterRow → RouterRow → PortRow → Bool → Outcome
gateway_replaced caller rows old new p snat =
    router_replaced caller rows old new (with_gateway new p.network p.id snat)
    (gateway_edits new p snat)

abbrev pub router_moved : SettingsParts → State → Caller → RouterForm → RouterRow → RouterRow
    → Option NetworkRow → Outcome
router_moved settings state caller form old new None =
    unless (when (is_last state) CountersSpent) (router_replaced caller state.rows old new new [])
router_moved settings state caller form old new (Some n) =
    needing (PoolsSpent n.id) (outer_addresses state.rows n) (λ fixed.
    needing CountersSpent (free_mac state.rows.ports n.id) (λ mac.
    needing CountersSpent (drawing_at state old.project 1) (λ drawing.
    gateway_replaced caller drawing.rows old new
    (gateway_port settings old n (drawn_id drawing 0) mac fixed)
    (unwrap_or (snat_asked form) (old_snat old.gateway)))))

abbrev pub router_changed : SettingsParts → State → Caller → RouterForm → RouterRow → RouterRow
    → Outcome
router_changed settings state caller form old new =
    unless (update_refusal state.rows caller form old new)
    (router_moved settings state caller form old new
    (new_gateway (gateway_network state.rows caller form) new.gateway))

abbrev pub router_updated : SettingsParts → State → Caller → IdText → RouterForm → Outcome
router_updated settings state caller name form =
    needing (not_found RouterKind name.text) (router_seen state.rows caller name.id) (λ r.
    router_changed settings state caller form r (changed_router form r))

-- taking a router out, with its gateway port

abbrev pub deletion_refusal : State → Caller → RouterRow → Option Refusal
deletion_refusal state caller r = first_refusal (
    owner_only caller r.project
    ∷ router_in_use state.rows caller r
    ∷ when (is_last state) CountersSpent
    ∷ [])

abbrev pub router_deleted : State → Caller → IdText → Outcome
router_deleted state caller name =
    needing (not_found RouterKind name.text) (router_seen state.rows caller name.id) (λ r.
    unless (deletion_refusal state caller r)
    (accepted state.rows (gateway_gone r.gateway ++ Drop RouterKind r.id ∷ []) (λ rows. NoRow)))
