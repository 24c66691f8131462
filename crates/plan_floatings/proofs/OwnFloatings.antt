-- What calls on floating addresses refuse, the machine refuses of itself.
use Rattle.std.proofs.Common.{◌≡◌, ℕ, List, [], ◌∷◌, true, Option, None, arith, refl}
use Rattle.api_policy.specs.Permits.{admin_only, owner_only}
use Rattle.api_policy.specs.Seen.{floating_seen, network_seen}
use Rattle.api_policy.specs.Uses.{aim_in_use}
use Rattle.api_types.specs.Association.{with_target}
use Rattle.api_types.specs.Given.{are_unlike, is_for_other, is_given, owner_of, value_of}
use Rattle.api_types.specs.Ident.{Ident}
use Rattle.api_types.specs.Refusing.{needing, not_found, unless, when}
use Rattle.api_types.specs.RowLists.{RowLists}
use Rattle.api_types.specs.declared.call.Caller.{Caller}
use Rattle.api_types.specs.declared.call.IdText.{IdText}
use Rattle.api_types.specs.declared.floating.FloatingRow.{FloatingRow}
use Rattle.api_types.specs.declared.floating.Target.{Target}
use Rattle.api_types.specs.declared.form.FloatingForm.{FloatingForm}
use Rattle.api_types.specs.declared.kind.Kind.TheVariants.{Floating as FloatingKind, Network as NetworkKind, Port as PortKind}
use Rattle.api_types.specs.declared.network.NetworkRow.{NetworkRow}
use Rattle.api_types.specs.declared.port.PortRow.{PortRow}
use Rattle.api_types.specs.declared.refusal.Refusal.TheVariants.{Invalid}
use Rattle.call_parts.specs.BodyNames.{text_of, unless_found}
use Rattle.api_types.specs.WithRows.{gone_from}
use Rattle.call_parts.specs.State.{State}
use Rattle.kept_laws.proofs.Own.{is_own_outcome, own_first, own_needing, own_target, own_then, own_unless, owns}
use Rattle.kept_laws.proofs.OwnChecks.{own_admin_only, own_aim_in_use, own_owner_only, own_unless_found}
use Rattle.net_settings.specs.Settings.{SettingsParts}
use Rattle.plan_floatings.specs.FloatingCalls.{address_held, aim_asked, body_refusal, changed_floating, creation_refusal, deletion_refusal, floating_added, floating_changed, floating_created, floating_deleted, floating_made, floating_replaced, floating_updated, floating_with, lacks_port, port_asked, update_refusal}
use Rattle.plan_floatings.specs.FloatingRules.{bad_address, bad_aim, bad_outside}
use Rattle.std.specs.Prelude.{codes, if◌then◌else◌, not, option_and_then, ◌&&◌, ◌||◌}

-- FloatingRules

pub own_bad_outside : (rows : RowLists) (owner : List ℕ) (n : NetworkRow) → owns (bad_outside rows owner n) ≡ true
own_bad_outside rows owner n = grind arith

pub own_bad_address : (a0 : RowLists) (a1 : Option ℕ) (a2 : NetworkRow) → owns (bad_address a0 a1 a2) ≡ true
own_bad_address a0 a1 a2 = grind arith

pub own_bad_aim : (project : List ℕ) (address : Option ℕ) (p : PortRow) → owns (bad_aim project address p) ≡ true
own_bad_aim project address p = grind arith

-- FloatingCalls

pub own_body_refusal : (rows : RowLists) (caller : Caller) (form : FloatingForm) (owner : List ℕ) (n : Option NetworkRow) → owns (body_refusal rows caller form owner n) ≡ true
own_body_refusal rows caller form owner n =
    own_first (when (lacks_port form) (Invalid (codes "fixed_ip_address"))) (when (are_unlike form.project_id form.tenant_id) (Invalid (codes "tenant_id")) ∷ (if not caller.admin && is_for_other caller form.project_id form.tenant_id then None else option_and_then (bad_outside rows owner) n) ∷ option_and_then (bad_address rows (value_of form.floating_ip_address)) n ∷ option_and_then (bad_aim owner (value_of form.fixed_ip_address)) (port_asked rows caller form) ∷ []) (grind arith)
    (own_first (when (are_unlike form.project_id form.tenant_id) (Invalid (codes "tenant_id"))) ((if not caller.admin && is_for_other caller form.project_id form.tenant_id then None else option_and_then (bad_outside rows owner) n) ∷ option_and_then (bad_address rows (value_of form.floating_ip_address)) n ∷ option_and_then (bad_aim owner (value_of form.fixed_ip_address)) (port_asked rows caller form) ∷ []) (grind arith)
    (own_first (if not caller.admin && is_for_other caller form.project_id form.tenant_id then None else option_and_then (bad_outside rows owner) n) (option_and_then (bad_address rows (value_of form.floating_ip_address)) n ∷ option_and_then (bad_aim owner (value_of form.fixed_ip_address)) (port_asked rows caller form) ∷ []) (grind arith)
    (own_first (option_and_then (bad_address rows (value_of form.floating_ip_address)) n) (option_and_then (bad_aim owner (value_of form.fixed_ip_address)) (port_asked rows caller form) ∷ []) (own_then (bad_address rows (value_of form.floating_ip_address)) n (own_bad_address rows (value_of form.floating_ip_address)))
    (own_first (option_and_then (bad_aim owner (value_of form.fixed_ip_address)) (port_asked rows caller form)) ([]) (own_then (bad_aim owner (value_of form.fixed_ip_address)) (port_asked rows caller form) (own_bad_aim owner (value_of form.fixed_ip_address)))
    (refl)))))

pub own_address_held : (a0 : RowLists) (a1 : Ident) (a2 : Option ℕ) → owns (address_held a0 a1 a2) ≡ true
own_address_held a0 a1 a2 = grind arith

pub own_creation_refusal : (rows : RowLists) (caller : Caller) (form : FloatingForm) (n : NetworkRow) → owns (creation_refusal rows caller form n) ≡ true
own_creation_refusal rows caller form n =
    own_first (unless_found PortKind (value_of form.port_id) (port_asked rows caller form)) (admin_only caller (is_given form.floating_ip_address || is_for_other caller form.project_id form.tenant_id) ∷ option_and_then (aim_in_use rows caller rows.floatings n.id) (aim_asked rows caller form) ∷ address_held rows n.id (value_of form.floating_ip_address) ∷ []) (own_unless_found PortKind (value_of form.port_id) (port_asked rows caller form))
    (own_first (admin_only caller (is_given form.floating_ip_address || is_for_other caller form.project_id form.tenant_id)) (option_and_then (aim_in_use rows caller rows.floatings n.id) (aim_asked rows caller form) ∷ address_held rows n.id (value_of form.floating_ip_address) ∷ []) (own_admin_only caller (is_given form.floating_ip_address || is_for_other caller form.project_id form.tenant_id))
    (own_first (option_and_then (aim_in_use rows caller rows.floatings n.id) (aim_asked rows caller form)) (address_held rows n.id (value_of form.floating_ip_address) ∷ []) (own_then (aim_in_use rows caller rows.floatings n.id) (aim_asked rows caller form) (own_aim_in_use rows caller rows.floatings n.id))
    (own_first (address_held rows n.id (value_of form.floating_ip_address)) ([]) (own_address_held rows n.id (value_of form.floating_ip_address))
    (refl))))

pub own_floating_added : (caller : Caller) (rows : RowLists) (f : FloatingRow) (p : PortRow) → is_own_outcome (floating_added caller rows f p) ≡ true
own_floating_added caller rows f p = grind arith

pub own_floating_with : (settings : SettingsParts) (state : State) (caller : Caller) (form : FloatingForm) (owner : List ℕ) (n : NetworkRow) (target : Option Target) → is_own_outcome (floating_with settings state caller form owner n target) ≡ true
own_floating_with settings state caller form owner n target = grind arith

pub own_floating_made : (settings : SettingsParts) (state : State) (caller : Caller) (form : FloatingForm) (owner : List ℕ) (network : Option NetworkRow) → is_own_outcome (floating_made settings state caller form owner network) ≡ true
own_floating_made settings state caller form owner network =
    own_unless (body_refusal state.rows caller form owner network) (needing (not_found NetworkKind (text_of (value_of form.floating_network_id))) network (λ n. unless (creation_refusal state.rows caller form n) (with_target state.rows owner n.id (aim_asked state.rows caller form) (floating_with settings state caller form owner n)))) (own_body_refusal state.rows caller form owner network)
    (own_needing (not_found NetworkKind (text_of (value_of form.floating_network_id))) network (λ n. unless (creation_refusal state.rows caller form n) (with_target state.rows owner n.id (aim_asked state.rows caller form) (floating_with settings state caller form owner n))) refl (λ n. own_unless (creation_refusal state.rows caller form n) (with_target state.rows owner n.id (aim_asked state.rows caller form) (floating_with settings state caller form owner n)) (own_creation_refusal state.rows caller form n)
    (own_target state.rows owner n.id (aim_asked state.rows caller form) (floating_with settings state caller form owner n) (own_floating_with settings state caller form owner n))))

pub own_floating_created : (settings : SettingsParts) (state : State) (caller : Caller) (form : FloatingForm) → is_own_outcome (floating_created settings state caller form) ≡ true
own_floating_created settings state caller form =
    own_floating_made settings state caller form (owner_of caller form.project_id form.tenant_id) (network_seen state.rows caller (value_of form.floating_network_id))

pub own_update_refusal : (state : State) (caller : Caller) (form : FloatingForm) (f : FloatingRow) → owns (update_refusal state caller form f) ≡ true
own_update_refusal state caller form f =
    own_first (option_and_then (bad_aim f.project (value_of form.fixed_ip_address)) (port_asked state.rows caller form)) (unless_found PortKind (value_of form.port_id) (port_asked state.rows caller form) ∷ owner_only caller f.project ∷ option_and_then (aim_in_use state.rows caller (gone_from (λ g. g.id) f.id state.rows.floatings) f.network) (aim_asked state.rows caller form) ∷ []) (own_then (bad_aim f.project (value_of form.fixed_ip_address)) (port_asked state.rows caller form) (own_bad_aim f.project (value_of form.fixed_ip_address)))
    (own_first (unless_found PortKind (value_of form.port_id) (port_asked state.rows caller form)) (owner_only caller f.project ∷ option_and_then (aim_in_use state.rows caller (gone_from (λ g. g.id) f.id state.rows.floatings) f.network) (aim_asked state.rows caller form) ∷ []) (own_unless_found PortKind (value_of form.port_id) (port_asked state.rows caller form))
    (own_first (owner_only caller f.project) (option_and_then (aim_in_use state.rows caller (gone_from (λ g. g.id) f.id state.rows.floatings) f.network) (aim_asked state.rows caller form) ∷ []) (own_owner_only caller f.project)
    (own_first (option_and_then (aim_in_use state.rows caller (gone_from (λ g. g.id) f.id state.rows.floatings) f.network) (aim_asked state.rows caller form)) ([]) (own_then (aim_in_use state.rows caller (gone_from (λ g. g.id) f.id state.rows.floatings) f.network) (aim_asked state.rows caller form) (own_aim_in_use state.rows caller (gone_from (λ g. g.id) f.id state.rows.floatings) f.network))
    (refl))))

pub own_floating_replaced : (state : State) (caller : Caller) (f : FloatingRow) → is_own_outcome (floating_replaced state caller f) ≡ true
own_floating_replaced state caller f = grind arith

pub own_floating_changed : (state : State) (caller : Caller) (form : FloatingForm) (f : FloatingRow) → is_own_outcome (floating_changed state caller form f) ≡ true
own_floating_changed state caller form f =
    own_unless (update_refusal state caller form f) (with_target state.rows f.project f.network (aim_asked state.rows caller form) (λ target. floating_replaced state caller (changed_floating form f target))) (own_update_refusal state caller form f)
    (own_target state.rows f.project f.network (aim_asked state.rows caller form) (λ target. floating_replaced state caller (changed_floating form f target)) (λ target. own_floating_replaced state caller (changed_floating form f target)))

pub own_floating_updated : (state : State) (caller : Caller) (name : IdText) (form : FloatingForm) → is_own_outcome (floating_updated state caller name form) ≡ true
own_floating_updated state caller name form =
    own_unless (when (lacks_port form) (Invalid (codes "fixed_ip_address"))) (needing (not_found FloatingKind name.text) (floating_seen state.rows caller name.id) (floating_changed state caller form)) (grind arith)
    (own_needing (not_found FloatingKind name.text) (floating_seen state.rows caller name.id) (floating_changed state caller form) refl (own_floating_changed state caller form))

pub own_deletion_refusal : (state : State) (caller : Caller) (f : FloatingRow) → owns (deletion_refusal state caller f) ≡ true
own_deletion_refusal state caller f = grind arith

pub own_floating_deleted : (state : State) (caller : Caller) (name : IdText) → is_own_outcome (floating_deleted state caller name) ≡ true
own_floating_deleted state caller name = grind arith
