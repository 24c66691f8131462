-- What calls on subnets refuse, the machine refuses of itself.
use Rattle.std.proofs.Common.{◌≡◌, ℕ, List, [], ◌∷◌, Bool, true, Option, arith, refl}
use Rattle.api_ipam.specs.MacChoice.{mac_if}
use Rattle.api_policy.specs.Permits.{network_owner}
use Rattle.api_policy.specs.Seen.{network_seen, subnet_seen}
use Rattle.api_policy.specs.Uses.{old_gateway_in_use}
use Rattle.api_types.specs.Given.{value_of, value_or}
use Rattle.api_types.specs.HeldAddresses.{fixed_at}
use Rattle.api_types.specs.Lists.{is_some_so}
use Rattle.api_types.specs.Printed.{OneRow}
use Rattle.api_types.specs.Refusing.{needing, not_found, unless, when}
use Rattle.api_types.specs.Registration.{Drawing, drawn_id}
use Rattle.api_types.specs.RowLists.{RowLists}
use Rattle.api_types.specs.Table.{row_of}
use Rattle.api_types.specs.declared.call.Caller.{Caller}
use Rattle.api_types.specs.declared.call.IdText.{IdText}
use Rattle.api_types.specs.declared.form.IpVersion.TheVariants.{V4}
use Rattle.api_types.specs.declared.form.SubnetForm.{SubnetForm}
use Rattle.api_types.specs.declared.kind.Kind.TheVariants.{Network as NetworkKind, Subnet as SubnetKind}
use Rattle.api_types.specs.declared.network.NetworkRow.{NetworkRow}
use Rattle.api_types.specs.declared.refusal.Refusal.TheVariants.{CountersSpent, Invalid, PoolsSpent}
use Rattle.api_types.specs.declared.subnet.SubnetRow.{SubnetRow}
use Rattle.call_parts.specs.BodyNames.{text_of}
use Rattle.call_parts.specs.Edits.{accepted}
use Rattle.call_parts.specs.State.{State, drawing_at}
use Rattle.kept_laws.proofs.Own.{is_own_outcome, own_first, own_needing, own_then, own_unless, owns}
use Rattle.kept_laws.proofs.OwnChecks.{own_network_owner, own_old_gateway_in_use}
use Rattle.net_addr.specs.Addresses.{same_version}
use Rattle.net_addr.specs.Prefixes.{Prefix, Span}
use Rattle.net_addr.specs.declared.address.Addr.{Addr}
use Rattle.net_settings.specs.Settings.{SettingsParts}
use Rattle.plan_subnets.specs.DhcpUpkeep.{dhcp_address, makes_dhcp_port}
use Rattle.plan_subnets.specs.SubnetCalls.{changed_subnet, creation_refusal, deletion_refusal, dhcp_asked, gateway_asked, pools_asked, prefix_asked, subnet_added, subnet_changed, subnet_created, subnet_deleted, subnet_edits, subnet_made, subnet_replaced, subnet_shown, subnet_updated, update_refusal}
use Rattle.plan_subnets.specs.SubnetRules.{bad_cidr, bad_dhcp, bad_modes, bad_parts, bad_subnet, bad_versions, of_version}
use Rattle.std.specs.Prelude.{codes, if◌then◌else◌, not, option_and_then, ◌&&◌}

-- SubnetRules

pub own_bad_cidr : (rows : RowLists) (prefix : Prefix) (n : NetworkRow) → owns (bad_cidr rows prefix n) ≡ true
own_bad_cidr rows prefix n = grind arith

pub own_bad_subnet : (prefix : Prefix) (gateway : Option Addr) (pools : List Span) → owns (bad_subnet prefix gateway pools) ≡ true
own_bad_subnet prefix gateway pools = grind arith

pub own_bad_versions : (x : Addr) (form : SubnetForm) → owns (bad_versions x form) ≡ true
own_bad_versions x form = grind arith

pub own_bad_modes : (form : SubnetForm) → owns (bad_modes form) ≡ true
own_bad_modes form = grind arith

pub own_bad_parts : (form : SubnetForm) → owns (bad_parts form) ≡ true
own_bad_parts form =
    own_first (when (is_some_so (λ (p : Prefix). not (same_version (of_version (value_or V4 form.ip_version)) p.base)) (value_of form.cidr)) (Invalid (codes "cidr"))) (bad_versions (of_version (value_or V4 form.ip_version)) form ∷ bad_modes form ∷ []) (grind arith)
    (own_first (bad_versions (of_version (value_or V4 form.ip_version)) form) (bad_modes form ∷ []) (own_bad_versions (of_version (value_or V4 form.ip_version)) form)
    (own_first (bad_modes form) ([]) (own_bad_modes form)
    (refl)))

pub own_bad_dhcp : (form : SubnetForm) (s : SubnetRow) → owns (bad_dhcp form s) ≡ true
own_bad_dhcp form s = grind arith

-- SubnetCalls

pub own_creation_refusal : (settings : SettingsParts) (rows : RowLists) (caller : Caller) (n : NetworkRow) → owns (creation_refusal settings rows caller n) ≡ true
own_creation_refusal settings rows caller n = grind arith

pub own_subnet_added : (settings : SettingsParts) (caller : Caller) (drawing : Drawing) (n : NetworkRow) (s : SubnetRow) (x : Addr) (mac : ℕ) → is_own_outcome (subnet_added settings caller drawing n s x mac) ≡ true
own_subnet_added settings caller drawing n s x mac = grind arith

pub own_subnet_made : (settings : SettingsParts) (state : State) (caller : Caller) (form : SubnetForm) (n : NetworkRow) (makes : Bool) → is_own_outcome (subnet_made settings state caller form n makes) ≡ true
own_subnet_made settings state caller form n makes = grind arith

pub own_subnet_created : (settings : SettingsParts) (state : State) (caller : Caller) (form : SubnetForm) → is_own_outcome (subnet_created settings state caller form) ≡ true
own_subnet_created settings state caller form =
    own_unless (bad_parts form) (unless (option_and_then (bad_cidr state.rows (prefix_asked form)) (network_seen state.rows caller (value_of form.network_id))) (unless (bad_subnet (prefix_asked form) (gateway_asked form) (pools_asked form)) (needing (not_found NetworkKind (text_of (value_of form.network_id))) (network_seen state.rows caller (value_of form.network_id)) (λ n. subnet_made settings state caller form n (makes_dhcp_port state.rows.ports n.id (dhcp_asked form)))))) (own_bad_parts form)
    (own_unless (option_and_then (bad_cidr state.rows (prefix_asked form)) (network_seen state.rows caller (value_of form.network_id))) (unless (bad_subnet (prefix_asked form) (gateway_asked form) (pools_asked form)) (needing (not_found NetworkKind (text_of (value_of form.network_id))) (network_seen state.rows caller (value_of form.network_id)) (λ n. subnet_made settings state caller form n (makes_dhcp_port state.rows.ports n.id (dhcp_asked form))))) (own_then (bad_cidr state.rows (prefix_asked form)) (network_seen state.rows caller (value_of form.network_id)) (own_bad_cidr state.rows (prefix_asked form)))
    (own_unless (bad_subnet (prefix_asked form) (gateway_asked form) (pools_asked form)) (needing (not_found NetworkKind (text_of (value_of form.network_id))) (network_seen state.rows caller (value_of form.network_id)) (λ n. subnet_made settings state caller form n (makes_dhcp_port state.rows.ports n.id (dhcp_asked form)))) (own_bad_subnet (prefix_asked form) (gateway_asked form) (pools_asked form))
    (own_needing (not_found NetworkKind (text_of (value_of form.network_id))) (network_seen state.rows caller (value_of form.network_id)) (λ n. subnet_made settings state caller form n (makes_dhcp_port state.rows.ports n.id (dhcp_asked form))) refl (λ n. own_subnet_made settings state caller form n (makes_dhcp_port state.rows.ports n.id (dhcp_asked form))))))

pub own_update_refusal : (rows : RowLists) (caller : Caller) (form : SubnetForm) (old : SubnetRow) (new : SubnetRow) → owns (update_refusal rows caller form old new) ≡ true
own_update_refusal rows caller form old new =
    own_first (bad_versions old.prefix.base form) (bad_subnet new.prefix new.gateway new.pools ∷ bad_dhcp form old ∷ network_owner rows caller true old.network ∷ old_gateway_in_use rows caller old new ∷ []) (own_bad_versions old.prefix.base form)
    (own_first (bad_subnet new.prefix new.gateway new.pools) (bad_dhcp form old ∷ network_owner rows caller true old.network ∷ old_gateway_in_use rows caller old new ∷ []) (own_bad_subnet new.prefix new.gateway new.pools)
    (own_first (bad_dhcp form old) (network_owner rows caller true old.network ∷ old_gateway_in_use rows caller old new ∷ []) (own_bad_dhcp form old)
    (own_first (network_owner rows caller true old.network) (old_gateway_in_use rows caller old new ∷ []) (own_network_owner rows caller true old.network)
    (own_first (old_gateway_in_use rows caller old new) ([]) (own_old_gateway_in_use rows caller old new)
    (refl)))))

pub own_subnet_replaced : (settings : SettingsParts) (state : State) (caller : Caller) (form : SubnetForm) (n : NetworkRow) (old : SubnetRow) (new : SubnetRow) (makes : Bool) → is_own_outcome (subnet_replaced settings state caller form n old new makes) ≡ true
own_subnet_replaced settings state caller form n old new makes =
    own_unless (update_refusal state.rows caller form old new) (needing (PoolsSpent n.id) (dhcp_address state.rows.ports n.id (new.dhcp && not old.dhcp) new) (λ x. needing CountersSpent (mac_if makes state.rows.ports n.id) (λ mac. needing CountersSpent (drawing_at state n.project (if makes then 1 else 0)) (λ drawing. accepted drawing.rows (subnet_edits settings drawing.rows n old new (drawn_id drawing 0) mac (fixed_at new.id x)) (λ rows. OneRow (subnet_shown rows caller new [])))))) (own_update_refusal state.rows caller form old new)
    (own_needing (PoolsSpent n.id) (dhcp_address state.rows.ports n.id (new.dhcp && not old.dhcp) new) (λ x. needing CountersSpent (mac_if makes state.rows.ports n.id) (λ mac. needing CountersSpent (drawing_at state n.project (if makes then 1 else 0)) (λ drawing. accepted drawing.rows (subnet_edits settings drawing.rows n old new (drawn_id drawing 0) mac (fixed_at new.id x)) (λ rows. OneRow (subnet_shown rows caller new []))))) refl (λ x. own_needing CountersSpent (mac_if makes state.rows.ports n.id) (λ mac. needing CountersSpent (drawing_at state n.project (if makes then 1 else 0)) (λ drawing. accepted drawing.rows (subnet_edits settings drawing.rows n old new (drawn_id drawing 0) mac (fixed_at new.id x)) (λ rows. OneRow (subnet_shown rows caller new [])))) refl (λ mac. own_needing CountersSpent (drawing_at state n.project (if makes then 1 else 0)) (λ drawing. accepted drawing.rows (subnet_edits settings drawing.rows n old new (drawn_id drawing 0) mac (fixed_at new.id x)) (λ rows. OneRow (subnet_shown rows caller new []))) refl (λ drawing. grind arith))))

pub own_subnet_changed : (settings : SettingsParts) (state : State) (caller : Caller) (form : SubnetForm) (n : NetworkRow) (old : SubnetRow) (new : SubnetRow) → is_own_outcome (subnet_changed settings state caller form n old new) ≡ true
own_subnet_changed settings state caller form n old new =
    own_subnet_replaced settings state caller form n old new (makes_dhcp_port state.rows.ports n.id (new.dhcp && not old.dhcp))

pub own_subnet_updated : (settings : SettingsParts) (state : State) (caller : Caller) (name : IdText) (form : SubnetForm) → is_own_outcome (subnet_updated settings state caller name form) ≡ true
own_subnet_updated settings state caller name form =
    own_needing (not_found SubnetKind name.text) (subnet_seen state.rows caller name.id) (λ s. needing (not_found SubnetKind name.text) (row_of (λ n. n.id) s.network state.rows.networks) (λ n. subnet_changed settings state caller form n s (changed_subnet form s))) refl (λ s. own_needing (not_found SubnetKind name.text) (row_of (λ n. n.id) s.network state.rows.networks) (λ n. subnet_changed settings state caller form n s (changed_subnet form s)) refl (λ n. own_subnet_changed settings state caller form n s (changed_subnet form s)))

pub own_deletion_refusal : (state : State) (caller : Caller) (s : SubnetRow) → owns (deletion_refusal state caller s) ≡ true
own_deletion_refusal state caller s = grind arith

pub own_subnet_deleted : (state : State) (caller : Caller) (name : IdText) → is_own_outcome (subnet_deleted state caller name) ≡ true
own_subnet_deleted state caller name = grind arith
