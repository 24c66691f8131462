-- A tenant's calls on interfaces leave what others own alone, but for ports on its networks that go.
use Rattle.api_ipam.specs.MacChoice.{free_mac}
use Rattle.api_policy.specs.Permits.{network_owner, owner_only}
use Rattle.api_policy.specs.Seen.{port_seen, router_seen, subnet_seen}
use Rattle.api_policy.specs.Uses.{floating_in_use, port_in_use, route_in_use}
use Rattle.api_policy.specs.Visibility.{is_own, owns_network, sees_port, sees_subnet}
use Rattle.api_types.proofs.ListLemmas.{and_both, any-at, at_filter, one_row, or_true, some_equal}
use Rattle.api_types.proofs.NameLemmas.{all-at, bytes_same, ident_itself, ident_same}
use Rattle.api_types.specs.Consistent.{IsConsistent}
use Rattle.api_types.specs.Consistent.InForm.{is_network_of}
use Rattle.api_types.specs.Consistent.Named.{names_subnet}
use Rattle.api_types.specs.HeldAddresses.{fixed_at}
use Rattle.api_types.specs.Holders.{holds}
use Rattle.api_types.specs.Ident.{ident_text}
use Rattle.api_types.specs.Outcome.{Moved, Outcome}
use Rattle.api_types.specs.Owners.{holds_in, is_interface, is_port_of}
use Rattle.api_types.specs.Printed.{InterfaceRow, Reply}
use Rattle.api_types.specs.Refusing.{needing, not_found, when}
use Rattle.api_types.specs.Registration.{Drawing, drawn_id}
use Rattle.api_types.specs.RouterWays.{interfaces_of}
use Rattle.api_types.specs.RowLists.{RowLists}
use Rattle.api_types.specs.Table.{ident_eq, row_of}
use Rattle.api_types.specs.WithRows.{with_put}
use Rattle.api_types.specs.declared.call.Caller.{Caller}
use Rattle.api_types.specs.declared.call.IdText.{IdText}
use Rattle.api_types.specs.declared.call.InterfaceBy.{InterfaceBy}
use Rattle.api_types.specs.declared.call.InterfaceBy.TheVariants.{Port as ByPort, Subnet as BySubnet}
use Rattle.api_types.specs.declared.kind.Kind.TheVariants.{Port as PortKind, Router as RouterKind, Subnet as SubnetKind}
use Rattle.api_types.specs.declared.kind.Row.TheVariants.{Port}
use Rattle.api_types.specs.declared.network.NetworkRow.{NetworkRow}
use Rattle.api_types.specs.declared.port.Fixed.{Fixed}
use Rattle.api_types.specs.declared.port.PortRow.{PortRow}
use Rattle.api_types.specs.declared.refusal.Refusal.{Refusal}
use Rattle.api_types.specs.declared.refusal.Refusal.TheVariants.{CountersSpent, Invalid}
use Rattle.api_types.specs.declared.router.RouterRow.{RouterRow}
use Rattle.api_types.specs.declared.subnet.SubnetRow.{SubnetRow}
use Rattle.call_parts.specs.Edits.{Put, accepted, made}
use Rattle.call_parts.specs.State.{State, drawing_at, is_last}
use Rattle.net_addr.specs.declared.address.Addr.{Addr}
use Rattle.net_settings.specs.Settings.{SettingsParts}
use Rattle.apart_laws.proofs.Drawn.{draws_sparing}
use Rattle.kept_laws.proofs.OutcomeLemmas.{found_at, moved_rows, named_is, needing_moved, unless_moved}
use Rattle.kept_laws.proofs.EditedRows.{none_refused}
use Rattle.apart_laws.proofs.PortLeaves.{port_leaves}
use Rattle.apart_laws.proofs.Steps.{Spares, network_owned, own_alone, own_tenant, owned, spares_then}
use Rattle.apart_laws.proofs.PortsOwned.{port_added_spares, port_put_spares}
use Rattle.apart_laws.specs.Others.{OthersStay}
use Rattle.plan_routers.specs.InterfaceCalls.{added_by_port, added_by_subnet, first_subnet, interface_added, interface_by, interface_gone, interface_made, interface_port, interface_removed, interface_shown, no_interface, port_refusal, port_removed, removal_refusal, removed_by, subnet_refusal, taken_over}
use Rattle.api_router.specs.RouterRules.{bad_interface_port}
use Rattle.std.proofs.Common.{List, None, Option, Some, [], ap, arith, false, refl, slice_get, subst, sym, true, ℕ, ◌++◌, ◌∙◌, ◌∷◌, ◌≡◌}
use Rattle.std.specs.Prelude.{codes, find, ◌&&◌, ◌||◌}
use Rattle.std.specs.Str.{bytes_eq}

by_subnet_spares : (settings : SettingsParts) (state : State) (caller : Caller) (r : RouterRow) (s : SubnetRow) (n : NetworkRow) (x : Addr) (rows : RowLists) (reply : Reply) → bytes_eq r.project caller.project ≡ true
    → added_by_subnet settings state caller r s n x ≡ Moved rows reply → Spares caller.project state.rows rows
by_subnet_spares settings state caller r s n x rows reply own h =
    let add : ℕ → Drawing → Outcome = λ mac d. interface_made d.rows r (interface_port settings d.rows caller r n (drawn_id d 0) mac (fixed_at s.id x)) s.id in
    let draw : ℕ → Outcome = λ mac. needing CountersSpent (drawing_at state r.project 1) (add mac) in
    let passed = unless_moved (subnet_refusal state.rows caller r s x) (needing CountersSpent (free_mac state.rows.ports n.id) draw) rows reply h in
    let at_mac = needing_moved CountersSpent (free_mac state.rows.ports n.id) draw rows reply passed.1 in
    let drawing = needing_moved CountersSpent (drawing_at state r.project 1) (add at_mac.0) rows reply at_mac.2 in
    let d : Drawing = drawing.0 in
    let p : PortRow = interface_port settings d.rows caller r n (drawn_id d 0) at_mac.0 (fixed_at s.id x) in
    let now : RowLists = record d.rows { ports = d.rows.ports ++ p ∷ [] } in
    subst (Spares caller.project state.rows) (moved_rows now rows _ reply drawing.2)
    (spares_then caller.project state.rows d.rows now (draws_sparing state caller.project r.project 1 d (bytes_same r.project caller.project own) drawing.1).spares (port_added_spares caller.project d.rows p own))

by_port_spares : (settings : SettingsParts) (state : State) (caller : Caller) (r : RouterRow) (k : ℕ) (p : PortRow) (n : NetworkRow) (rows : RowLists) (reply : Reply) → caller.admin ≡ false → IsConsistent state.rows
    → slice_get state.rows.ports k ≡ Some p → added_by_port settings state caller r p n ≡ Moved rows reply → Spares caller.project state.rows rows
by_port_spares settings state caller r k p n rows reply tenant c at h =
    let new : PortRow = taken_over settings r n p in
    let set : Outcome = accepted state.rows (Put (Port new) ∷ []) (λ after. InterfaceRow (interface_shown r p (first_subnet p.fixed))) in
    let passed = unless_moved (port_refusal state caller r p) set rows reply h in
    let by_owner : Option Refusal = owner_only caller p.project in
    let os : List (Option Refusal) = bad_interface_port state.rows r p ∷ owner_only caller r.project ∷ by_owner ∷ port_in_use state.rows caller r p ∷ when (is_last state) CountersSpent ∷ [] in
    let own = owned caller p.project tenant (none_refused os passed.0 2 by_owner refl) in
    let are = own_alone (λ (q : PortRow). q.id) (λ (q : PortRow). q.project) caller.project state.rows.ports k p (omega (arith, c.numbered.ids p.id)) at own in
    subst (Spares caller.project state.rows) (moved_rows (with_put state.rows (Port new)) rows _ reply passed.1) (port_put_spares caller.project state.rows new own are)

by_spares : (settings : SettingsParts) (state : State) (caller : Caller) (r : RouterRow) (by : InterfaceBy) (rows : RowLists) (reply : Reply) → caller.admin ≡ false → IsConsistent state.rows
    → bytes_eq r.project caller.project ≡ true → interface_by settings state caller r by ≡ Moved rows reply → Spares caller.project state.rows rows
by_spares settings state caller r (BySubnet i) rows reply tenant c own h =
    let end : SubnetRow → Addr → NetworkRow → Outcome = λ s x n. added_by_subnet settings state caller r s n x in
    let on : SubnetRow → Addr → Outcome = λ s x. needing (not_found SubnetKind (ident_text i)) (row_of (λ (n : NetworkRow). n.id) s.network state.rows.networks) (end s x) in
    let rest : SubnetRow → Outcome = λ s. needing (Invalid (codes "subnet_id")) s.gateway (on s) in
    let found = needing_moved (not_found SubnetKind (ident_text i)) (subnet_seen state.rows caller (Some i)) rest rows reply h in
    let s : SubnetRow = found.0 in
    let at_x = needing_moved (Invalid (codes "subnet_id")) s.gateway (on s) rows reply found.2 in
    let at_n = needing_moved (not_found SubnetKind (ident_text i)) (row_of (λ (n : NetworkRow). n.id) s.network state.rows.networks) (end s at_x.0) rows reply at_x.2 in
    by_subnet_spares settings state caller r s at_n.0 at_x.0 rows reply own at_n.2
by_spares settings state caller r (ByPort i) rows reply tenant c own h =
    let end : PortRow → NetworkRow → Outcome = λ p n. added_by_port settings state caller r p n in
    let rest : PortRow → Outcome = λ p. needing (not_found PortKind (ident_text i)) (row_of (λ (n : NetworkRow). n.id) p.network state.rows.networks) (end p) in
    let found = needing_moved (not_found PortKind (ident_text i)) (port_seen state.rows caller (Some i)) rest rows reply h in
    let p : PortRow = found.0 in
    let here = named_is (λ (q : PortRow). q.id) (sees_port state.rows caller) state.rows.ports (Some i) p found.1 in
    let at_n = needing_moved (not_found PortKind (ident_text i)) (row_of (λ (n : NetworkRow). n.id) p.network state.rows.networks) (end p) rows reply found.2 in
    by_port_spares settings state caller r here.place p at_n.0 rows reply tenant c here.at at_n.2

pub interface_added_spares : (settings : SettingsParts) (state : State) (caller : Caller) (name : IdText) (by : InterfaceBy) (rows : RowLists) (reply : Reply) → caller.admin ≡ false → IsConsistent state.rows
    → interface_added settings state caller name by ≡ Moved rows reply → Spares caller.project state.rows rows
interface_added_spares settings state caller name by rows reply tenant c h =
    let rest : RouterRow → Outcome = λ r. interface_by settings state caller r by in
    let found = needing_moved (not_found RouterKind name.text) (router_seen state.rows caller name.id) rest rows reply h in
    let r : RouterRow = found.0 in
    let here = named_is (λ (q : RouterRow). q.id) (λ (q : RouterRow). is_own caller q.project) state.rows.routers name.id r found.1 in
    by_spares settings state caller r by rows reply tenant c (own_tenant caller r.project tenant here.is_seen) found.2

-- removing an interface

removed_stays : (state : State) (caller : Caller) (r : RouterRow) (owner : Option Refusal) (k : ℕ) (p : PortRow) (rows : RowLists) (reply : Reply) → IsConsistent state.rows → slice_get state.rows.ports k ≡ Some p
    → (owner ≡ None → bytes_eq p.project caller.project || is_network_of state.rows.networks caller.project p.network ≡ true) → port_removed state caller r owner p ≡ Moved rows reply → OthersStay caller.project state.rows rows
removed_stays state caller r owner k p rows reply c at may h =
    let gone : Outcome = accepted state.rows (interface_gone state.rows.floatings p) (λ after. InterfaceRow (interface_shown r p (first_subnet p.fixed))) in
    let passed = unless_moved (removal_refusal state caller r p owner) gone rows reply h in
    let os : List (Option Refusal) = owner_only caller r.project ∷ owner ∷ route_in_use state.rows caller r r.routes p ∷ floating_in_use state.rows caller r p ∷ when (is_last state) CountersSpent ∷ [] in
    subst (OthersStay caller.project state.rows) (moved_rows (made state.rows (interface_gone state.rows.floatings p)) rows _ reply passed.1)
    (port_leaves state.rows c caller.project k p at (may (none_refused os passed.0 1 owner refl)))

-- a port that holds an address of a subnet is on its network
held_on : (rows : RowLists) → IsConsistent rows → (k : ℕ) (p : PortRow) → slice_get rows.ports k ≡ Some p → (j : ℕ) (s : SubnetRow) → slice_get rows.subnets j ≡ Some s → holds_in s.id p ≡ true → s.network ≡ p.network
held_on rows c k p at j s at_s holds =
    let f = any-at (λ (f : Fixed). ident_eq s.id f.subnet) p.fixed holds in
    let named = any-at (λ (q : SubnetRow). ident_eq f.1.subnet q.id && ident_eq q.network p.network) rows.subnets (all-at (names_subnet rows.subnets p) p.fixed (c.named.subnets.of_ports k p at) f.0 f.1 f.2) in
    let both = and_both (ident_eq f.1.subnet named.1.id) (ident_eq named.1.network p.network) named.3 in
    let same : s ≡ named.1 = one_row (λ (q : SubnetRow). ident_eq s.id q.id) rows.subnets (omega (arith, c.numbered.ids s.id)) j named.0 s named.1 at_s named.2 (ident_itself s.id)
    (ap (λ i. ident_eq i named.1.id) (ident_same s.id f.1.subnet f.3) ∙ both.0) in
    ap (λ (q : SubnetRow). q.network) same ∙ ident_same named.1.network p.network both.1

removed_by_stays : (state : State) (caller : Caller) (r : RouterRow) (by : InterfaceBy) (rows : RowLists) (reply : Reply) → caller.admin ≡ false → IsConsistent state.rows
    → removed_by state caller r by ≡ Moved rows reply → OthersStay caller.project state.rows rows
removed_by_stays state caller r (BySubnet i) rows reply tenant c h =
    let by_owner : SubnetRow → Option Refusal = λ s. network_owner state.rows caller true s.network in
    let end : SubnetRow → PortRow → Outcome = λ s p. port_removed state caller r (by_owner s) p in
    let rest : SubnetRow → Outcome = λ s. needing (no_interface i) (find (holds_in i) (interfaces_of state.rows.ports r)) (end s) in
    let found = needing_moved (not_found SubnetKind (ident_text i)) (subnet_seen state.rows caller (Some i)) rest rows reply h in
    let s : SubnetRow = found.0 in
    let here = named_is (λ (q : SubnetRow). q.id) (sees_subnet state.rows caller) state.rows.subnets (Some i) s found.1 in
    let leg = needing_moved (no_interface i) (find (holds_in i) (interfaces_of state.rows.ports r)) (end s) rows reply found.2 in
    let p : PortRow = leg.0 in
    let at_leg = found_at (holds_in i) (interfaces_of state.rows.ports r) p leg.1 in
    let at_p = at_filter (λ (q : PortRow). is_interface q.owner && is_port_of r q) state.rows.ports at_leg.0 p at_leg.1 in
    let on : s.network ≡ p.network = held_on state.rows c at_p.0 p at_p.1 here.place s here.at (ap (λ j. holds_in j p) (sym (some_equal i s.id here.name_is)) ∙ at_leg.2) in
    removed_stays state caller r (by_owner s) at_p.0 p rows reply c at_p.1
    (λ none. ap (λ b. bytes_eq p.project caller.project || b) (subst (λ j. owns_network state.rows caller.project j ≡ true) on (network_owned state.rows caller s.network tenant none)) ∙ or_true (bytes_eq p.project caller.project))
    leg.2
removed_by_stays state caller r (ByPort i) rows reply tenant c h =
    let by_owner : PortRow → Option Refusal = λ p. owner_only caller p.project in
    let end : PortRow → PortRow → Outcome = λ p q. port_removed state caller r (by_owner p) q in
    let rest : PortRow → Outcome = λ p. needing (no_interface i) (row_of (λ (q : PortRow). q.id) i (interfaces_of state.rows.ports r)) (end p) in
    let found = needing_moved (not_found PortKind (ident_text i)) (port_seen state.rows caller (Some i)) rest rows reply h in
    let p : PortRow = found.0 in
    let here = named_is (λ (q : PortRow). q.id) (sees_port state.rows caller) state.rows.ports (Some i) p found.1 in
    let leg = needing_moved (no_interface i) (row_of (λ (q : PortRow). q.id) i (interfaces_of state.rows.ports r)) (end p) rows reply found.2 in
    let q : PortRow = leg.0 in
    let at_leg = found_at (λ (y : PortRow). ident_eq i y.id) (interfaces_of state.rows.ports r) q leg.1 in
    let at_q = at_filter (λ (y : PortRow). is_interface y.owner && is_port_of r y) state.rows.ports at_leg.0 q at_leg.1 in
    let same : p ≡ q = one_row (λ (y : PortRow). ident_eq i y.id) state.rows.ports (omega (arith, c.numbered.ids i)) here.place at_q.0 p q here.at at_q.1
    (ap (ident_eq i) (sym (some_equal i p.id here.name_is)) ∙ ident_itself i) at_leg.2 in
    removed_stays state caller r (by_owner p) at_q.0 q rows reply c at_q.1
    (λ none. ap (λ b. b || is_network_of state.rows.networks caller.project q.network) (ap (λ (y : PortRow). bytes_eq y.project caller.project) (sym same) ∙ owned caller p.project tenant none))
    leg.2

pub interface_removed_stays : (state : State) (caller : Caller) (name : IdText) (by : InterfaceBy) (rows : RowLists) (reply : Reply) → caller.admin ≡ false → IsConsistent state.rows
    → interface_removed state caller name by ≡ Moved rows reply → OthersStay caller.project state.rows rows
interface_removed_stays state caller name by rows reply tenant c h =
    let rest : RouterRow → Outcome = λ r. removed_by state caller r by in
    let found = needing_moved (not_found RouterKind name.text) (router_seen state.rows caller name.id) rest rows reply h in
    removed_by_stays state caller found.0 by rows reply tenant c found.2
