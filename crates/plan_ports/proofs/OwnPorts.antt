-- What calls on ports refuse, the machine refuses of itself.
use Rattle.std.proofs.Common.{◌≡◌, ℕ, List, [], ◌∷◌, Bool, true, Option, arith, refl}
use Rattle.api_ipam.specs.FixedChoice.{first_known, named_subnets, next_known}
use Rattle.api_ipam.specs.MacChoice.{mac_for}
use Rattle.api_policy.specs.Permits.{admin_only, network_access, network_owner, owner_only, port_delete}
use Rattle.api_policy.specs.Quotas.{over_quota}
use Rattle.api_policy.specs.Seen.{network_seen, port_seen}
use Rattle.api_policy.specs.Uses.{service_in_use}
use Rattle.api_types.specs.Given.{are_unlike, owner_of, value_of, value_or}
use Rattle.api_types.specs.HeldAddresses.{is_address_held, is_held_by_other, is_mac_held, is_mac_of_other, subnets_on}
use Rattle.api_types.specs.Ident.{Ident}
use Rattle.api_types.specs.Printed.{NoRow}
use Rattle.api_types.specs.Refusing.{needing, not_found, unless, when}
use Rattle.api_types.specs.Registration.{drawn_id}
use Rattle.api_types.specs.RowLists.{RowLists}
use Rattle.api_types.specs.Table.{row_of}
use Rattle.api_types.specs.declared.call.Caller.{Caller}
use Rattle.api_types.specs.declared.call.IdText.{IdText}
use Rattle.api_types.specs.declared.form.FixedAsked.{FixedAsked}
use Rattle.api_types.specs.declared.form.PortForm.{PortForm}
use Rattle.api_types.specs.declared.kind.Kind.TheVariants.{Group as GroupKind, Network as NetworkKind, Port as PortKind, Subnet as SubnetKind}
use Rattle.api_types.specs.declared.network.NetworkRow.{NetworkRow}
use Rattle.api_types.specs.declared.port.Fixed.{Fixed}
use Rattle.api_types.specs.declared.port.PortRow.{PortRow}
use Rattle.api_types.specs.declared.refusal.Refusal.TheVariants.{CountersSpent, Invalid, PoolsSpent}
use Rattle.api_types.specs.declared.subnet.SubnetRow.{SubnetRow}
use Rattle.call_parts.specs.BodyNames.{text_of, unless_all}
use Rattle.call_parts.specs.Edits.{accepted}
use Rattle.call_parts.specs.State.{State, drawing_at, is_last}
use Rattle.kept_laws.proofs.Own.{is_own_outcome, own_first, own_needing, own_then, own_unless, owns}
use Rattle.kept_laws.proofs.OwnChecks.{own_admin_only, own_network_access, own_network_owner, own_over_quota, own_owner_only, own_port_delete, own_service_in_use, own_unless_all}
use Rattle.net_addr.specs.declared.address.Addr.{Addr}
use Rattle.net_settings.specs.Settings.{SettingsParts}
use Rattle.plan_ports.specs.PortCalls.{addresses_after, addresses_at_first, bad_bare_after, bad_first_fixed, bad_next_fixed, body_refusal, changed_port, changes_service, creation_refusal, deletion_refusal, is_group_for, items_of, mac_after, mac_at_first, mac_taken, new_port, port_added, port_changed, port_created, port_deleted, port_gone, port_made, port_replaced, port_updated, update_refusal, values_taken}
use Rattle.plan_ports.specs.PortRules.{bad_bare, bad_fixed, is_subnet_seen}
use Rattle.std.specs.Prelude.{codes, option_and_then}
use Rattle.api_policy.specs.Reserved.{port_for_admin, port_for_owner}

-- PortRules

pub own_bad_fixed : (rows : RowLists) (caller : Caller) (subnets : List SubnetRow) (mac : ℕ) (old : List Fixed) (asked : List FixedAsked) → owns (bad_fixed rows caller subnets mac old asked) ≡ true
own_bad_fixed rows caller subnets mac old asked = grind arith

pub own_bad_bare : {G P : Type 0} (secured : Bool) (groups : List G) (pairs : List P) → owns (bad_bare secured groups pairs) ≡ true
own_bad_bare secured groups pairs = grind arith

-- PortCalls

pub own_mac_taken : (a0 : (ℕ → Bool)) (a1 : Ident) (a2 : Option ℕ) → owns (mac_taken a0 a1 a2) ≡ true
own_mac_taken a0 a1 a2 = grind arith

pub own_values_taken : (held : (Addr → Bool)) (mac_held : (ℕ → Bool)) (network : Ident) (known : List Addr) (form : PortForm) → owns (values_taken held mac_held network known form) ≡ true
own_values_taken held mac_held network known form = grind arith

pub own_bad_first_fixed : (rows : RowLists) (caller : Caller) (form : PortForm) (n : NetworkRow) → owns (bad_first_fixed rows caller form n) ≡ true
own_bad_first_fixed rows caller form n = grind arith

pub own_body_refusal : (rows : RowLists) (caller : Caller) (form : PortForm) → owns (body_refusal rows caller form) ≡ true
own_body_refusal rows caller form =
    own_first (when (are_unlike form.project_id form.tenant_id) (Invalid (codes "tenant_id"))) (option_and_then (bad_first_fixed rows caller form) (network_seen rows caller (value_of form.network_id)) ∷ bad_bare (value_or true form.port_security_enabled) (value_or [] form.security_groups) (value_or [] form.allowed_address_pairs) ∷ unless_all SubnetKind (is_subnet_seen rows caller) (named_subnets (items_of form)) ∷ []) (grind arith)
    (own_first (option_and_then (bad_first_fixed rows caller form) (network_seen rows caller (value_of form.network_id))) (bad_bare (value_or true form.port_security_enabled) (value_or [] form.security_groups) (value_or [] form.allowed_address_pairs) ∷ unless_all SubnetKind (is_subnet_seen rows caller) (named_subnets (items_of form)) ∷ []) (own_then (bad_first_fixed rows caller form) (network_seen rows caller (value_of form.network_id)) (own_bad_first_fixed rows caller form))
    (own_first (bad_bare (value_or true form.port_security_enabled) (value_or [] form.security_groups) (value_or [] form.allowed_address_pairs)) (unless_all SubnetKind (is_subnet_seen rows caller) (named_subnets (items_of form)) ∷ []) (own_bad_bare (value_or true form.port_security_enabled) (value_or [] form.security_groups) (value_or [] form.allowed_address_pairs))
    (own_first (unless_all SubnetKind (is_subnet_seen rows caller) (named_subnets (items_of form))) ([]) (own_unless_all SubnetKind (is_subnet_seen rows caller) (named_subnets (items_of form)))
    (refl))))

pub own_creation_refusal : (settings : SettingsParts) (rows : RowLists) (caller : Caller) (form : PortForm) (n : NetworkRow) (owner : List ℕ) → owns (creation_refusal settings rows caller form n owner) ≡ true
own_creation_refusal settings rows caller form n owner =
    own_first (unless_all GroupKind (is_group_for rows caller owner) (value_or [] form.security_groups)) (admin_only caller (port_for_admin caller form) ∷ network_owner rows caller (port_for_owner form) n.id ∷ network_access rows caller n.id ∷ values_taken (is_address_held rows.ports n.id) (is_mac_held rows.ports n.id) n.id (first_known (subnets_on rows.subnets n.id) (mac_at_first rows.ports form n.id) form.fixed_ips) form ∷ over_quota settings rows owner PortKind ∷ []) (own_unless_all GroupKind (is_group_for rows caller owner) (value_or [] form.security_groups))
    (own_first (admin_only caller (port_for_admin caller form)) (network_owner rows caller (port_for_owner form) n.id ∷ network_access rows caller n.id ∷ values_taken (is_address_held rows.ports n.id) (is_mac_held rows.ports n.id) n.id (first_known (subnets_on rows.subnets n.id) (mac_at_first rows.ports form n.id) form.fixed_ips) form ∷ over_quota settings rows owner PortKind ∷ []) (own_admin_only caller (port_for_admin caller form))
    (own_first (network_owner rows caller (port_for_owner form) n.id) (network_access rows caller n.id ∷ values_taken (is_address_held rows.ports n.id) (is_mac_held rows.ports n.id) n.id (first_known (subnets_on rows.subnets n.id) (mac_at_first rows.ports form n.id) form.fixed_ips) form ∷ over_quota settings rows owner PortKind ∷ []) (own_network_owner rows caller (port_for_owner form) n.id)
    (own_first (network_access rows caller n.id) (values_taken (is_address_held rows.ports n.id) (is_mac_held rows.ports n.id) n.id (first_known (subnets_on rows.subnets n.id) (mac_at_first rows.ports form n.id) form.fixed_ips) form ∷ over_quota settings rows owner PortKind ∷ []) (own_network_access rows caller n.id)
    (own_first (values_taken (is_address_held rows.ports n.id) (is_mac_held rows.ports n.id) n.id (first_known (subnets_on rows.subnets n.id) (mac_at_first rows.ports form n.id) form.fixed_ips) form) (over_quota settings rows owner PortKind ∷ []) (own_values_taken (is_address_held rows.ports n.id) (is_mac_held rows.ports n.id) n.id (first_known (subnets_on rows.subnets n.id) (mac_at_first rows.ports form n.id) form.fixed_ips) form)
    (own_first (over_quota settings rows owner PortKind) ([]) (own_over_quota settings rows owner PortKind)
    (refl))))))

pub own_port_added : (caller : Caller) (rows : RowLists) (p : PortRow) → is_own_outcome (port_added caller rows p) ≡ true
own_port_added caller rows p = grind arith

pub own_port_made : (settings : SettingsParts) (state : State) (caller : Caller) (form : PortForm) (n : NetworkRow) (owner : List ℕ) → is_own_outcome (port_made settings state caller form n owner) ≡ true
own_port_made settings state caller form n owner =
    own_unless (creation_refusal settings state.rows caller form n owner) (needing (PoolsSpent n.id) (addresses_at_first state.rows form n.id) (λ fixed. needing CountersSpent (mac_for state.rows.ports n.id form.mac_address) (λ mac. needing CountersSpent (drawing_at state owner 1) (λ drawing. port_added caller drawing.rows (new_port settings drawing.rows caller form n owner (drawn_id drawing 0) mac fixed))))) (own_creation_refusal settings state.rows caller form n owner)
    (own_needing (PoolsSpent n.id) (addresses_at_first state.rows form n.id) (λ fixed. needing CountersSpent (mac_for state.rows.ports n.id form.mac_address) (λ mac. needing CountersSpent (drawing_at state owner 1) (λ drawing. port_added caller drawing.rows (new_port settings drawing.rows caller form n owner (drawn_id drawing 0) mac fixed)))) refl (λ fixed. own_needing CountersSpent (mac_for state.rows.ports n.id form.mac_address) (λ mac. needing CountersSpent (drawing_at state owner 1) (λ drawing. port_added caller drawing.rows (new_port settings drawing.rows caller form n owner (drawn_id drawing 0) mac fixed))) refl (λ mac. own_needing CountersSpent (drawing_at state owner 1) (λ drawing. port_added caller drawing.rows (new_port settings drawing.rows caller form n owner (drawn_id drawing 0) mac fixed)) refl (λ drawing. own_port_added caller drawing.rows (new_port settings drawing.rows caller form n owner (drawn_id drawing 0) mac fixed)))))

pub own_port_created : (settings : SettingsParts) (state : State) (caller : Caller) (form : PortForm) → is_own_outcome (port_created settings state caller form) ≡ true
own_port_created settings state caller form =
    own_unless (body_refusal state.rows caller form) (needing (not_found NetworkKind (text_of (value_of form.network_id))) (network_seen state.rows caller (value_of form.network_id)) (λ n. port_made settings state caller form n (owner_of caller form.project_id form.tenant_id))) (own_body_refusal state.rows caller form)
    (own_needing (not_found NetworkKind (text_of (value_of form.network_id))) (network_seen state.rows caller (value_of form.network_id)) (λ n. port_made settings state caller form n (owner_of caller form.project_id form.tenant_id)) refl (λ n. own_port_made settings state caller form n (owner_of caller form.project_id form.tenant_id)))

pub own_bad_bare_after : (form : PortForm) (p : PortRow) → owns (bad_bare_after form p) ≡ true
own_bad_bare_after form p = grind arith

pub own_bad_next_fixed : (rows : RowLists) (caller : Caller) (form : PortForm) (p : PortRow) (subnets : List SubnetRow) → owns (bad_next_fixed rows caller form p subnets) ≡ true
own_bad_next_fixed rows caller form p subnets = grind arith

pub own_update_refusal : (rows : RowLists) (caller : Caller) (form : PortForm) (p : PortRow) → owns (update_refusal rows caller form p) ≡ true
own_update_refusal rows caller form p =
    own_first (bad_next_fixed rows caller form p (subnets_on rows.subnets p.network)) (bad_bare_after form p ∷ unless_all SubnetKind (is_subnet_seen rows caller) (named_subnets (items_of form)) ∷ unless_all GroupKind (is_group_for rows caller p.project) (value_or [] form.security_groups) ∷ admin_only caller (port_for_admin caller form) ∷ owner_only caller p.project ∷ network_owner rows caller (port_for_owner form) p.network ∷ service_in_use rows caller (changes_service form) p ∷ values_taken (is_held_by_other rows.ports p) (is_mac_of_other rows.ports p) p.network (next_known (subnets_on rows.subnets p.network) p (mac_after form p) form.fixed_ips) form ∷ []) (own_bad_next_fixed rows caller form p (subnets_on rows.subnets p.network))
    (own_first (bad_bare_after form p) (unless_all SubnetKind (is_subnet_seen rows caller) (named_subnets (items_of form)) ∷ unless_all GroupKind (is_group_for rows caller p.project) (value_or [] form.security_groups) ∷ admin_only caller (port_for_admin caller form) ∷ owner_only caller p.project ∷ network_owner rows caller (port_for_owner form) p.network ∷ service_in_use rows caller (changes_service form) p ∷ values_taken (is_held_by_other rows.ports p) (is_mac_of_other rows.ports p) p.network (next_known (subnets_on rows.subnets p.network) p (mac_after form p) form.fixed_ips) form ∷ []) (own_bad_bare_after form p)
    (own_first (unless_all SubnetKind (is_subnet_seen rows caller) (named_subnets (items_of form))) (unless_all GroupKind (is_group_for rows caller p.project) (value_or [] form.security_groups) ∷ admin_only caller (port_for_admin caller form) ∷ owner_only caller p.project ∷ network_owner rows caller (port_for_owner form) p.network ∷ service_in_use rows caller (changes_service form) p ∷ values_taken (is_held_by_other rows.ports p) (is_mac_of_other rows.ports p) p.network (next_known (subnets_on rows.subnets p.network) p (mac_after form p) form.fixed_ips) form ∷ []) (own_unless_all SubnetKind (is_subnet_seen rows caller) (named_subnets (items_of form)))
    (own_first (unless_all GroupKind (is_group_for rows caller p.project) (value_or [] form.security_groups)) (admin_only caller (port_for_admin caller form) ∷ owner_only caller p.project ∷ network_owner rows caller (port_for_owner form) p.network ∷ service_in_use rows caller (changes_service form) p ∷ values_taken (is_held_by_other rows.ports p) (is_mac_of_other rows.ports p) p.network (next_known (subnets_on rows.subnets p.network) p (mac_after form p) form.fixed_ips) form ∷ []) (own_unless_all GroupKind (is_group_for rows caller p.project) (value_or [] form.security_groups))
    (own_first (admin_only caller (port_for_admin caller form)) (owner_only caller p.project ∷ network_owner rows caller (port_for_owner form) p.network ∷ service_in_use rows caller (changes_service form) p ∷ values_taken (is_held_by_other rows.ports p) (is_mac_of_other rows.ports p) p.network (next_known (subnets_on rows.subnets p.network) p (mac_after form p) form.fixed_ips) form ∷ []) (own_admin_only caller (port_for_admin caller form))
    (own_first (owner_only caller p.project) (network_owner rows caller (port_for_owner form) p.network ∷ service_in_use rows caller (changes_service form) p ∷ values_taken (is_held_by_other rows.ports p) (is_mac_of_other rows.ports p) p.network (next_known (subnets_on rows.subnets p.network) p (mac_after form p) form.fixed_ips) form ∷ []) (own_owner_only caller p.project)
    (own_first (network_owner rows caller (port_for_owner form) p.network) (service_in_use rows caller (changes_service form) p ∷ values_taken (is_held_by_other rows.ports p) (is_mac_of_other rows.ports p) p.network (next_known (subnets_on rows.subnets p.network) p (mac_after form p) form.fixed_ips) form ∷ []) (own_network_owner rows caller (port_for_owner form) p.network)
    (own_first (service_in_use rows caller (changes_service form) p) (values_taken (is_held_by_other rows.ports p) (is_mac_of_other rows.ports p) p.network (next_known (subnets_on rows.subnets p.network) p (mac_after form p) form.fixed_ips) form ∷ []) (own_service_in_use rows caller (changes_service form) p)
    (own_first (values_taken (is_held_by_other rows.ports p) (is_mac_of_other rows.ports p) p.network (next_known (subnets_on rows.subnets p.network) p (mac_after form p) form.fixed_ips) form) ([]) (own_values_taken (is_held_by_other rows.ports p) (is_mac_of_other rows.ports p) p.network (next_known (subnets_on rows.subnets p.network) p (mac_after form p) form.fixed_ips) form)
    (refl)))))))))

pub own_port_replaced : (caller : Caller) (rows : RowLists) (p : PortRow) → is_own_outcome (port_replaced caller rows p) ≡ true
own_port_replaced caller rows p = grind arith

pub own_port_changed : (settings : SettingsParts) (state : State) (caller : Caller) (form : PortForm) (n : NetworkRow) (p : PortRow) → is_own_outcome (port_changed settings state caller form n p) ≡ true
own_port_changed settings state caller form n p =
    own_unless (update_refusal state.rows caller form p) (needing (PoolsSpent p.network) (addresses_after state.rows form p) (λ fixed. unless (when (is_last state) CountersSpent) (port_replaced caller state.rows (changed_port settings form n p fixed)))) (own_update_refusal state.rows caller form p)
    (own_needing (PoolsSpent p.network) (addresses_after state.rows form p) (λ fixed. unless (when (is_last state) CountersSpent) (port_replaced caller state.rows (changed_port settings form n p fixed))) refl (λ fixed. own_unless (when (is_last state) CountersSpent) (port_replaced caller state.rows (changed_port settings form n p fixed)) (grind arith)
    (own_port_replaced caller state.rows (changed_port settings form n p fixed))))

pub own_port_updated : (settings : SettingsParts) (state : State) (caller : Caller) (name : IdText) (form : PortForm) → is_own_outcome (port_updated settings state caller name form) ≡ true
own_port_updated settings state caller name form =
    own_needing (not_found PortKind name.text) (port_seen state.rows caller name.id) (λ p. needing (not_found PortKind name.text) (row_of (λ n. n.id) p.network state.rows.networks) (λ n. port_changed settings state caller form n p)) refl (λ p. own_needing (not_found PortKind name.text) (row_of (λ n. n.id) p.network state.rows.networks) (λ n. port_changed settings state caller form n p) refl (λ n. own_port_changed settings state caller form n p))

pub own_deletion_refusal : (state : State) (caller : Caller) (p : PortRow) → owns (deletion_refusal state caller p) ≡ true
own_deletion_refusal state caller p =
    own_first (port_delete state.rows caller p) (service_in_use state.rows caller true p ∷ when (is_last state) CountersSpent ∷ []) (own_port_delete state.rows caller p)
    (own_first (service_in_use state.rows caller true p) (when (is_last state) CountersSpent ∷ []) (own_service_in_use state.rows caller true p)
    (own_first (when (is_last state) CountersSpent) ([]) (grind arith)
    (refl)))

pub own_port_deleted : (state : State) (caller : Caller) (name : IdText) → is_own_outcome (port_deleted state caller name) ≡ true
own_port_deleted state caller name =
    own_needing (not_found PortKind name.text) (port_seen state.rows caller name.id) (λ p. unless (deletion_refusal state caller p) (accepted state.rows (port_gone state.rows.floatings p.id) (λ rows. NoRow))) refl (λ p. own_unless (deletion_refusal state caller p) (accepted state.rows (port_gone state.rows.floatings p.id) (λ rows. NoRow)) (own_deletion_refusal state caller p)
    (grind arith))
