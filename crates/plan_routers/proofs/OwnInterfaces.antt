-- What calls on interfaces refuse, the machine refuses of itself.
use Rattle.std.proofs.Common.{◌≡◌, [], ◌∷◌, true, Option, Some, arith, refl}
use Rattle.api_policy.specs.Permits.{network_owner, owner_only}
use Rattle.api_policy.specs.Seen.{port_seen, router_seen, subnet_seen}
use Rattle.api_policy.specs.Uses.{floating_in_use, port_in_use, route_in_use}
use Rattle.api_types.specs.Ident.{Ident, ident_text}
use Rattle.api_types.specs.Owners.{holds_in}
use Rattle.api_types.specs.Printed.{InterfaceRow}
use Rattle.api_types.specs.Refusing.{needing, not_found, when}
use Rattle.api_types.specs.RouterWays.{interfaces_of}
use Rattle.api_types.specs.RowLists.{RowLists}
use Rattle.api_types.specs.Table.{row_of}
use Rattle.api_types.specs.declared.call.Caller.{Caller}
use Rattle.api_types.specs.declared.call.IdText.{IdText}
use Rattle.api_types.specs.declared.call.InterfaceBy.{InterfaceBy}
use Rattle.api_types.specs.declared.call.InterfaceBy.TheVariants.{Port as ByPort, Subnet as BySubnet}
use Rattle.api_types.specs.declared.kind.Kind.TheVariants.{Port as PortKind, Router as RouterKind, Subnet as SubnetKind}
use Rattle.api_types.specs.declared.kind.Row.TheVariants.{Port}
use Rattle.api_types.specs.declared.network.NetworkRow.{NetworkRow}
use Rattle.api_types.specs.declared.port.PortRow.{PortRow}
use Rattle.api_types.specs.declared.refusal.Refusal.{Refusal}
use Rattle.api_types.specs.declared.refusal.Refusal.TheVariants.{CountersSpent, Invalid}
use Rattle.api_types.specs.declared.router.RouterRow.{RouterRow}
use Rattle.api_types.specs.declared.subnet.SubnetRow.{SubnetRow}
use Rattle.call_parts.specs.Edits.{Put, accepted}
use Rattle.call_parts.specs.State.{State, is_last}
use Rattle.kept_laws.proofs.Own.{is_own_outcome, own_first, own_needing, own_unless, owns}
use Rattle.kept_laws.proofs.OwnChecks.{own_floating_in_use, own_network_owner, own_owner_only, own_port_in_use, own_route_in_use}
use Rattle.plan_routers.proofs.OwnRouters.{own_bad_interface_port}
use Rattle.net_addr.specs.declared.address.Addr.{Addr}
use Rattle.net_settings.specs.Settings.{SettingsParts}
use Rattle.plan_routers.specs.InterfaceCalls.{added_by_port, added_by_subnet, first_subnet, interface_added, interface_by, interface_gone, interface_made, interface_removed, interface_shown, no_interface, port_refusal, port_removed, removal_refusal, removed_by, subnet_refusal, taken_over}
use Rattle.api_router.specs.RouterRules.{bad_interface_port}
use Rattle.std.specs.Prelude.{codes, find}

-- InterfaceCalls

pub own_subnet_refusal : (rows : RowLists) (caller : Caller) (r : RouterRow) (s : SubnetRow) (x : Addr) → owns (subnet_refusal rows caller r s x) ≡ true
own_subnet_refusal rows caller r s x = grind arith

pub own_interface_made : (rows : RowLists) (r : RouterRow) (p : PortRow) (subnet : Ident) → is_own_outcome (interface_made rows r p subnet) ≡ true
own_interface_made rows r p subnet = grind arith

pub own_added_by_subnet : (settings : SettingsParts) (state : State) (caller : Caller) (r : RouterRow) (s : SubnetRow) (n : NetworkRow) (x : Addr) → is_own_outcome (added_by_subnet settings state caller r s n x) ≡ true
own_added_by_subnet settings state caller r s n x = grind arith

pub own_port_refusal : (state : State) (caller : Caller) (r : RouterRow) (p : PortRow) → owns (port_refusal state caller r p) ≡ true
own_port_refusal state caller r p =
    own_first (bad_interface_port state.rows r p) (owner_only caller r.project ∷ owner_only caller p.project ∷ port_in_use state.rows caller r p ∷ when (is_last state) CountersSpent ∷ []) (own_bad_interface_port state.rows r p)
    (own_first (owner_only caller r.project) (owner_only caller p.project ∷ port_in_use state.rows caller r p ∷ when (is_last state) CountersSpent ∷ []) (own_owner_only caller r.project)
    (own_first (owner_only caller p.project) (port_in_use state.rows caller r p ∷ when (is_last state) CountersSpent ∷ []) (own_owner_only caller p.project)
    (own_first (port_in_use state.rows caller r p) (when (is_last state) CountersSpent ∷ []) (own_port_in_use state.rows caller r p)
    (own_first (when (is_last state) CountersSpent) ([]) (grind arith)
    (refl)))))

pub own_added_by_port : (settings : SettingsParts) (state : State) (caller : Caller) (r : RouterRow) (p : PortRow) (n : NetworkRow) → is_own_outcome (added_by_port settings state caller r p n) ≡ true
own_added_by_port settings state caller r p n =
    own_unless (port_refusal state caller r p) (accepted state.rows (Put (Port (taken_over settings r n p)) ∷ []) (λ after. InterfaceRow (interface_shown r p (first_subnet p.fixed)))) (own_port_refusal state caller r p)
    (grind arith)

pub own_interface_by : (a0 : SettingsParts) (a1 : State) (a2 : Caller) (a3 : RouterRow) (a4 : InterfaceBy) → is_own_outcome (interface_by a0 a1 a2 a3 a4) ≡ true
own_interface_by settings state caller r (BySubnet i) =
    own_needing (not_found SubnetKind (ident_text i)) (subnet_seen state.rows caller (Some i)) (λ s. needing (Invalid (codes "subnet_id")) s.gateway (λ x. needing (not_found SubnetKind (ident_text i)) (row_of (λ n. n.id) s.network state.rows.networks) (λ n. added_by_subnet settings state caller r s n x))) refl (λ s. own_needing (Invalid (codes "subnet_id")) s.gateway (λ x. needing (not_found SubnetKind (ident_text i)) (row_of (λ n. n.id) s.network state.rows.networks) (λ n. added_by_subnet settings state caller r s n x)) refl (λ x. own_needing (not_found SubnetKind (ident_text i)) (row_of (λ n. n.id) s.network state.rows.networks) (λ n. added_by_subnet settings state caller r s n x) refl (λ n. own_added_by_subnet settings state caller r s n x)))
own_interface_by settings state caller r (ByPort i) =
    own_needing (not_found PortKind (ident_text i)) (port_seen state.rows caller (Some i)) (λ p. needing (not_found PortKind (ident_text i)) (row_of (λ n. n.id) p.network state.rows.networks) (λ n. added_by_port settings state caller r p n)) refl (λ p. own_needing (not_found PortKind (ident_text i)) (row_of (λ n. n.id) p.network state.rows.networks) (λ n. added_by_port settings state caller r p n) refl (λ n. own_added_by_port settings state caller r p n))

pub own_interface_added : (settings : SettingsParts) (state : State) (caller : Caller) (name : IdText) (by : InterfaceBy) → is_own_outcome (interface_added settings state caller name by) ≡ true
own_interface_added settings state caller name by =
    own_needing (not_found RouterKind name.text) (router_seen state.rows caller name.id) (λ r. interface_by settings state caller r by) refl (λ r. own_interface_by settings state caller r by)

pub own_removal_refusal : (state : State) (caller : Caller) (r : RouterRow) (p : PortRow) (owner : Option Refusal) → owns owner ≡ true → owns (removal_refusal state caller r p owner) ≡ true
own_removal_refusal state caller r p owner found =
    own_first (owner_only caller r.project) (owner ∷ route_in_use state.rows caller r r.routes p ∷ floating_in_use state.rows caller r p ∷ when (is_last state) CountersSpent ∷ []) (own_owner_only caller r.project)
    (own_first owner (route_in_use state.rows caller r r.routes p ∷ floating_in_use state.rows caller r p ∷ when (is_last state) CountersSpent ∷ []) (found)
    (own_first (route_in_use state.rows caller r r.routes p) (floating_in_use state.rows caller r p ∷ when (is_last state) CountersSpent ∷ []) (own_route_in_use state.rows caller r r.routes p)
    (own_first (floating_in_use state.rows caller r p) (when (is_last state) CountersSpent ∷ []) (own_floating_in_use state.rows caller r p)
    (own_first (when (is_last state) CountersSpent) ([]) (grind arith)
    (refl)))))

pub own_port_removed : (state : State) (caller : Caller) (r : RouterRow) (owner : Option Refusal) (p : PortRow) → owns owner ≡ true → is_own_outcome (port_removed state caller r owner p) ≡ true
own_port_removed state caller r owner p found =
    own_unless (removal_refusal state caller r p owner) (accepted state.rows (interface_gone state.rows.floatings p) (λ after. InterfaceRow (interface_shown r p (first_subnet p.fixed)))) (own_removal_refusal state caller r p owner found)
    (grind arith)

pub own_removed_by : (a0 : State) (a1 : Caller) (a2 : RouterRow) (a3 : InterfaceBy) → is_own_outcome (removed_by a0 a1 a2 a3) ≡ true
own_removed_by state caller r (BySubnet i) =
    own_needing (not_found SubnetKind (ident_text i)) (subnet_seen state.rows caller (Some i)) (λ s. needing (no_interface i) (find (holds_in i) (interfaces_of state.rows.ports r)) (port_removed state caller r (network_owner state.rows caller true s.network))) refl (λ s. own_needing (no_interface i) (find (holds_in i) (interfaces_of state.rows.ports r)) (port_removed state caller r (network_owner state.rows caller true s.network)) refl (λ p. own_port_removed state caller r (network_owner state.rows caller true s.network) p (own_network_owner state.rows caller true s.network)))
own_removed_by state caller r (ByPort i) =
    own_needing (not_found PortKind (ident_text i)) (port_seen state.rows caller (Some i)) (λ p. needing (no_interface i) (row_of (λ q. q.id) i (interfaces_of state.rows.ports r)) (port_removed state caller r (owner_only caller p.project))) refl (λ p. own_needing (no_interface i) (row_of (λ q. q.id) i (interfaces_of state.rows.ports r)) (port_removed state caller r (owner_only caller p.project)) refl (λ q. own_port_removed state caller r (owner_only caller p.project) q (own_owner_only caller p.project)))

pub own_interface_removed : (state : State) (caller : Caller) (name : IdText) (by : InterfaceBy) → is_own_outcome (interface_removed state caller name by) ≡ true
own_interface_removed state caller name by = grind arith
