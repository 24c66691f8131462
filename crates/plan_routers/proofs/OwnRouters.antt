-- What calls on routers refuse, the machine refuses of itself.
use Rattle.std.proofs.Common.{◌≡◌, ℕ, List, [], ◌∷◌, Bool, true, Option, arith, refl}
use Rattle.api_policy.specs.Permits.{admin_only, owner_only}
use Rattle.api_policy.specs.Quotas.{over_quota}
use Rattle.api_policy.specs.Seen.{router_seen}
use Rattle.api_policy.specs.Uses.{gateway_use}
use Rattle.api_types.specs.Given.{are_unlike, is_for_other, owner_of}
use Rattle.api_types.specs.Refusing.{not_found, when}
use Rattle.api_types.specs.RouterWays.{interfaces_of}
use Rattle.api_types.specs.RowLists.{RowLists}
use Rattle.api_types.specs.declared.call.Caller.{Caller}
use Rattle.api_types.specs.declared.call.IdText.{IdText}
use Rattle.api_types.specs.declared.form.Given.{Given}
use Rattle.api_types.specs.declared.form.RouterForm.{RouterForm}
use Rattle.api_types.specs.declared.kind.Kind.TheVariants.{Network as NetworkKind, Router as RouterKind}
use Rattle.api_types.specs.declared.network.NetworkRow.{NetworkRow}
use Rattle.api_types.specs.declared.port.PortRow.{PortRow}
use Rattle.api_types.specs.declared.refusal.Refusal.TheVariants.{Invalid}
use Rattle.api_types.specs.declared.router.RouterRow.{RouterRow}
use Rattle.api_types.specs.declared.subnet.Hop.{Hop}
use Rattle.api_types.specs.declared.subnet.SubnetRow.{SubnetRow}
use Rattle.call_parts.specs.BodyNames.{unless_found}
use Rattle.call_parts.specs.Edits.{Edit}
use Rattle.call_parts.specs.State.{State}
use Rattle.kept_laws.proofs.Own.{is_own_outcome, own_first, own_needing, own_then, own_unless, owns}
use Rattle.kept_laws.proofs.OwnChecks.{own_admin_only, own_gateway_use, own_over_quota, own_owner_only, own_unless_found}
use Rattle.net_settings.specs.Settings.{SettingsParts}
use Rattle.plan_routers.specs.RouterCalls.{bad_first_gateway, changed_router, creation_refusal, deletion_refusal, gateway_added, gateway_name, gateway_network, gateway_replaced, lost_gateway, new_gateway, outer_taken, router_added, router_changed, router_created, router_deleted, router_made, router_moved, router_replaced, router_updated, router_with, update_refusal}
use Rattle.api_router.specs.RouterRules.{bad_gateway, bad_interface_port, bad_interface_subnet, bad_routes}
use Rattle.std.specs.Prelude.{codes, is_some, option_and_then, ◌||◌}
use Rattle.api_policy.specs.Reserved.{snat_asked}

-- RouterRules

pub own_bad_gateway : (rows : RowLists) (project : List ℕ) (interfaces : List PortRow) (n : NetworkRow) → owns (bad_gateway rows project interfaces n) ≡ true
own_bad_gateway rows project interfaces n = grind arith

pub own_bad_routes : (rows : RowLists) (r : RouterRow) (routes : Given (List Hop)) → owns (bad_routes rows r routes) ≡ true
own_bad_routes rows r routes = grind arith

pub own_bad_interface_subnet : (rows : RowLists) (r : RouterRow) (s : SubnetRow) → owns (bad_interface_subnet rows r s) ≡ true
own_bad_interface_subnet rows r s = grind arith

pub own_bad_interface_port : (rows : RowLists) (r : RouterRow) (p : PortRow) → owns (bad_interface_port rows r p) ≡ true
own_bad_interface_port rows r p = grind arith

-- RouterCalls

pub own_outer_taken : (rows : RowLists) (n : NetworkRow) → owns (outer_taken rows n) ≡ true
own_outer_taken rows n = grind arith

pub own_bad_first_gateway : (rows : RowLists) (caller : Caller) (form : RouterForm) (owner : List ℕ) → owns (bad_first_gateway rows caller form owner) ≡ true
own_bad_first_gateway rows caller form owner = grind arith

pub own_creation_refusal : (settings : SettingsParts) (rows : RowLists) (caller : Caller) (form : RouterForm) (owner : List ℕ) → owns (creation_refusal settings rows caller form owner) ≡ true
own_creation_refusal settings rows caller form owner =
    own_first (when (are_unlike form.project_id form.tenant_id) (Invalid (codes "tenant_id"))) (bad_first_gateway rows caller form owner ∷ unless_found NetworkKind (gateway_name form) (gateway_network rows caller form) ∷ admin_only caller (is_some (snat_asked form) || is_for_other caller form.project_id form.tenant_id) ∷ option_and_then (outer_taken rows) (gateway_network rows caller form) ∷ over_quota settings rows owner RouterKind ∷ []) (grind arith)
    (own_first (bad_first_gateway rows caller form owner) (unless_found NetworkKind (gateway_name form) (gateway_network rows caller form) ∷ admin_only caller (is_some (snat_asked form) || is_for_other caller form.project_id form.tenant_id) ∷ option_and_then (outer_taken rows) (gateway_network rows caller form) ∷ over_quota settings rows owner RouterKind ∷ []) (own_bad_first_gateway rows caller form owner)
    (own_first (unless_found NetworkKind (gateway_name form) (gateway_network rows caller form)) (admin_only caller (is_some (snat_asked form) || is_for_other caller form.project_id form.tenant_id) ∷ option_and_then (outer_taken rows) (gateway_network rows caller form) ∷ over_quota settings rows owner RouterKind ∷ []) (own_unless_found NetworkKind (gateway_name form) (gateway_network rows caller form))
    (own_first (admin_only caller (is_some (snat_asked form) || is_for_other caller form.project_id form.tenant_id)) (option_and_then (outer_taken rows) (gateway_network rows caller form) ∷ over_quota settings rows owner RouterKind ∷ []) (own_admin_only caller (is_some (snat_asked form) || is_for_other caller form.project_id form.tenant_id))
    (own_first (option_and_then (outer_taken rows) (gateway_network rows caller form)) (over_quota settings rows owner RouterKind ∷ []) (own_then (outer_taken rows) (gateway_network rows caller form) (own_outer_taken rows))
    (own_first (over_quota settings rows owner RouterKind) ([]) (own_over_quota settings rows owner RouterKind)
    (refl))))))

pub own_router_added : (caller : Caller) (rows : RowLists) (r : RouterRow) (last : RouterRow) (edits : List Edit) → is_own_outcome (router_added caller rows r last edits) ≡ true
own_router_added caller rows r last edits = grind arith

pub own_gateway_added : (caller : Caller) (rows : RowLists) (r : RouterRow) (p : PortRow) (snat : Bool) → is_own_outcome (gateway_added caller rows r p snat) ≡ true
own_gateway_added caller rows r p snat = grind arith

pub own_router_with : (a0 : SettingsParts) (a1 : State) (a2 : Caller) (a3 : RouterForm) (a4 : List ℕ) (a5 : Option NetworkRow) → is_own_outcome (router_with a0 a1 a2 a3 a4 a5) ≡ true
own_router_with a0 a1 a2 a3 a4 a5 = grind arith

pub own_router_made : (settings : SettingsParts) (state : State) (caller : Caller) (form : RouterForm) (owner : List ℕ) → is_own_outcome (router_made settings state caller form owner) ≡ true
own_router_made settings state caller form owner =
    own_unless (creation_refusal settings state.rows caller form owner) (router_with settings state caller form owner (gateway_network state.rows caller form)) (own_creation_refusal settings state.rows caller form owner)
    (own_router_with settings state caller form owner (gateway_network state.rows caller form))

pub own_router_created : (settings : SettingsParts) (state : State) (caller : Caller) (form : RouterForm) → is_own_outcome (router_created settings state caller form) ≡ true
own_router_created settings state caller form =
    own_router_made settings state caller form (owner_of caller form.project_id form.tenant_id)

pub own_update_refusal : (rows : RowLists) (caller : Caller) (form : RouterForm) (old : RouterRow) (new : RouterRow) → owns (update_refusal rows caller form old new) ≡ true
own_update_refusal rows caller form old new =
    own_first (option_and_then (bad_gateway rows old.project (interfaces_of rows.ports old)) (gateway_network rows caller form)) (bad_routes rows old form.routes ∷ unless_found NetworkKind (gateway_name form) (gateway_network rows caller form) ∷ admin_only caller (is_some (snat_asked form)) ∷ owner_only caller old.project ∷ gateway_use rows caller old new.routes (lost_gateway old.gateway new.gateway) ∷ option_and_then (outer_taken rows) (new_gateway (gateway_network rows caller form) new.gateway) ∷ []) (own_then (bad_gateway rows old.project (interfaces_of rows.ports old)) (gateway_network rows caller form) (own_bad_gateway rows old.project (interfaces_of rows.ports old)))
    (own_first (bad_routes rows old form.routes) (unless_found NetworkKind (gateway_name form) (gateway_network rows caller form) ∷ admin_only caller (is_some (snat_asked form)) ∷ owner_only caller old.project ∷ gateway_use rows caller old new.routes (lost_gateway old.gateway new.gateway) ∷ option_and_then (outer_taken rows) (new_gateway (gateway_network rows caller form) new.gateway) ∷ []) (own_bad_routes rows old form.routes)
    (own_first (unless_found NetworkKind (gateway_name form) (gateway_network rows caller form)) (admin_only caller (is_some (snat_asked form)) ∷ owner_only caller old.project ∷ gateway_use rows caller old new.routes (lost_gateway old.gateway new.gateway) ∷ option_and_then (outer_taken rows) (new_gateway (gateway_network rows caller form) new.gateway) ∷ []) (own_unless_found NetworkKind (gateway_name form) (gateway_network rows caller form))
    (own_first (admin_only caller (is_some (snat_asked form))) (owner_only caller old.project ∷ gateway_use rows caller old new.routes (lost_gateway old.gateway new.gateway) ∷ option_and_then (outer_taken rows) (new_gateway (gateway_network rows caller form) new.gateway) ∷ []) (own_admin_only caller (is_some (snat_asked form)))
    (own_first (owner_only caller old.project) (gateway_use rows caller old new.routes (lost_gateway old.gateway new.gateway) ∷ option_and_then (outer_taken rows) (new_gateway (gateway_network rows caller form) new.gateway) ∷ []) (own_owner_only caller old.project)
    (own_first (gateway_use rows caller old new.routes (lost_gateway old.gateway new.gateway)) (option_and_then (outer_taken rows) (new_gateway (gateway_network rows caller form) new.gateway) ∷ []) (own_gateway_use rows caller old new.routes (lost_gateway old.gateway new.gateway))
    (own_first (option_and_then (outer_taken rows) (new_gateway (gateway_network rows caller form) new.gateway)) ([]) (own_then (outer_taken rows) (new_gateway (gateway_network rows caller form) new.gateway) (own_outer_taken rows))
    (refl)))))))

pub own_router_replaced : (caller : Caller) (rows : RowLists) (old : RouterRow) (new : RouterRow) (last : RouterRow) (edits : List Edit) → is_own_outcome (router_replaced caller rows old new last edits) ≡ true
own_router_replaced caller rows old new last edits = grind arith

pub own_gateway_replaced : (caller : Caller) (rows : RowLists) (old : RouterRow) (new : RouterRow) (p : PortRow) (snat : Bool) → is_own_outcome (gateway_replaced caller rows old new p snat) ≡ true
own_gateway_replaced caller rows old new p snat = grind arith

pub own_router_moved : (a0 : SettingsParts) (a1 : State) (a2 : Caller) (a3 : RouterForm) (a4 : RouterRow) (a5 : RouterRow) (a6 : Option NetworkRow) → is_own_outcome (router_moved a0 a1 a2 a3 a4 a5 a6) ≡ true
own_router_moved a0 a1 a2 a3 a4 a5 a6 = grind arith

pub own_router_changed : (settings : SettingsParts) (state : State) (caller : Caller) (form : RouterForm) (old : RouterRow) (new : RouterRow) → is_own_outcome (router_changed settings state caller form old new) ≡ true
own_router_changed settings state caller form old new =
    own_unless (update_refusal state.rows caller form old new) (router_moved settings state caller form old new (new_gateway (gateway_network state.rows caller form) new.gateway)) (own_update_refusal state.rows caller form old new)
    (own_router_moved settings state caller form old new (new_gateway (gateway_network state.rows caller form) new.gateway))

pub own_router_updated : (settings : SettingsParts) (state : State) (caller : Caller) (name : IdText) (form : RouterForm) → is_own_outcome (router_updated settings state caller name form) ≡ true
own_router_updated settings state caller name form =
    own_needing (not_found RouterKind name.text) (router_seen state.rows caller name.id) (λ r. router_changed settings state caller form r (changed_router form r)) refl (λ r. own_router_changed settings state caller form r (changed_router form r))

pub own_deletion_refusal : (state : State) (caller : Caller) (r : RouterRow) → owns (deletion_refusal state caller r) ≡ true
own_deletion_refusal state caller r = grind arith

pub own_router_deleted : (state : State) (caller : Caller) (name : IdText) → is_own_outcome (router_deleted state caller name) ≡ true
own_router_deleted state caller name = grind arith
