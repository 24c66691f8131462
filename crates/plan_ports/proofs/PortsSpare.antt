-- A tenant's calls on ports leave what others own alone, but for ports on its networks that go.
use Rattle.api_ipam.specs.FixedChoice.{first_known, named_subnets, next_known}
use Rattle.api_ipam.specs.MacChoice.{mac_for}
use Rattle.api_policy.specs.Permits.{admin_only, network_access, network_owner, owner_only}
use Rattle.api_policy.specs.Quotas.{over_quota}
use Rattle.api_policy.specs.Reserved.{port_for_admin, port_for_owner}
use Rattle.api_policy.specs.Seen.{network_seen, port_seen}
use Rattle.api_policy.specs.Uses.{service_in_use}
use Rattle.api_policy.specs.Visibility.{owns_network, sees_port}
use Rattle.api_types.proofs.NameLemmas.{bytes_itself}
use Rattle.api_types.specs.Consistent.{IsConsistent}
use Rattle.api_types.specs.Consistent.InForm.{is_network_of}
use Rattle.api_types.specs.Given.{is_for_other, is_given, owner_of, value_of, value_or}
use Rattle.api_types.specs.HeldAddresses.{is_address_held, is_held_by_other, is_mac_held, is_mac_of_other, subnets_on}
use Rattle.api_types.specs.Outcome.{Moved, Outcome}
use Rattle.api_types.specs.Printed.{NoRow, Reply}
use Rattle.api_types.specs.Refusing.{needing, not_found, unless, when}
use Rattle.api_types.specs.Registration.{Drawing, drawn_id}
use Rattle.api_types.specs.RowLists.{RowLists}
use Rattle.api_types.specs.Table.{row_of}
use Rattle.api_types.specs.WithRows.{with_put}
use Rattle.api_types.specs.declared.call.Caller.{Caller}
use Rattle.api_types.specs.declared.call.IdText.{IdText}
use Rattle.api_types.specs.declared.form.PortForm.{PortForm}
use Rattle.api_types.specs.declared.kind.Kind.TheVariants.{Group as GroupKind, Network as NetworkKind, Port as PortKind, Subnet as SubnetKind}
use Rattle.api_types.specs.declared.kind.Row.TheVariants.{Port}
use Rattle.api_types.specs.declared.network.NetworkRow.{NetworkRow}
use Rattle.api_types.specs.declared.port.Fixed.{Fixed}
use Rattle.api_types.specs.declared.port.PortRow.{PortRow}
use Rattle.api_types.specs.declared.refusal.Refusal.{Refusal}
use Rattle.api_types.specs.declared.refusal.Refusal.TheVariants.{CountersSpent, PoolsSpent}
use Rattle.call_parts.specs.BodyNames.{text_of, unless_all}
use Rattle.call_parts.specs.Edits.{accepted, made}
use Rattle.call_parts.specs.Leaving.{disassociations}
use Rattle.call_parts.specs.State.{State, drawing_at, is_last}
use Rattle.net_settings.specs.Settings.{SettingsParts}
use Rattle.apart_laws.proofs.Drawn.{draws_sparing}
use Rattle.apart_laws.proofs.Leaving.{disassociated_spares}
use Rattle.kept_laws.proofs.OutcomeLemmas.{moved_rows, named_is, needing_moved, unless_moved}
use Rattle.kept_laws.proofs.EditedRows.{none_refused}
use Rattle.apart_laws.proofs.Steps.{Spares, or_fails, own_alone, own_owner, owned, spares_then, unneeded}
use Rattle.apart_laws.proofs.PortsOwned.{port_added_spares, port_put_spares}
use Rattle.apart_laws.specs.Others.{OthersStay}
use Rattle.plan_ports.specs.PortCalls.{addresses_after, addresses_at_first, bad_bare_after, bad_next_fixed, body_refusal, changed_port, changes_service, creation_refusal, deletion_refusal, is_group_for, items_of, mac_after, mac_at_first, new_port, port_added, port_changed, port_created, port_deleted, port_edits, port_gone, port_made, port_replaced, port_updated, update_refusal, values_taken}
use Rattle.plan_ports.specs.PortRules.{is_subnet_seen}
use Rattle.std.proofs.Common.{List, Option, ap, arith, false, refl, subst, sym, true, ◌++◌, ◌∙◌, ◌∷◌, ◌≡◌, [], ℕ}
use Rattle.std.specs.Prelude.{◌||◌}
use Rattle.std.specs.Str.{bytes_eq}
use Rattle.apart_laws.proofs.PortLeaves.{port_leaves}

pub port_created_spares : (settings : SettingsParts) (state : State) (caller : Caller) (form : PortForm) (rows : RowLists) (reply : Reply) → caller.admin ≡ false → IsConsistent state.rows
    → port_created settings state caller form ≡ Moved rows reply → Spares caller.project state.rows rows
port_created_spares settings state caller form rows reply tenant c h =
    let owner : List ℕ = owner_of caller form.project_id form.tenant_id in
    let seen : Option NetworkRow = network_seen state.rows caller (value_of form.network_id) in
    let add : NetworkRow → List Fixed → ℕ → Drawing → Outcome = λ n fixed mac d. port_added caller d.rows (new_port settings d.rows caller form n owner (drawn_id d 0) mac fixed) in
    let draw : NetworkRow → List Fixed → ℕ → Outcome = λ n fixed mac. needing CountersSpent (drawing_at state owner 1) (add n fixed mac) in
    let choose : NetworkRow → List Fixed → Outcome = λ n fixed. needing CountersSpent (mac_for state.rows.ports n.id form.mac_address) (draw n fixed) in
    let place : NetworkRow → Outcome = λ n. needing (PoolsSpent n.id) (addresses_at_first state.rows form n.id) (choose n) in
    let make : NetworkRow → Outcome = λ n. port_made settings state caller form n owner in
    let first = unless_moved (body_refusal state.rows caller form) (needing (not_found NetworkKind (text_of (value_of form.network_id))) seen make) rows reply h in
    let found = needing_moved (not_found NetworkKind (text_of (value_of form.network_id))) seen make rows reply first.1 in
    let n : NetworkRow = found.0 in
    let passed = unless_moved (creation_refusal settings state.rows caller form n owner) (place n) rows reply found.2 in
    let at_fixed = needing_moved (PoolsSpent n.id) (addresses_at_first state.rows form n.id) (choose n) rows reply passed.1 in
    let at_mac = needing_moved CountersSpent (mac_for state.rows.ports n.id form.mac_address) (draw n at_fixed.0) rows reply at_fixed.2 in
    let drawing = needing_moved CountersSpent (drawing_at state owner 1) (add n at_fixed.0 at_mac.0) rows reply at_mac.2 in
    let d : Drawing = drawing.0 in
    let p : PortRow = new_port settings d.rows caller form n owner (drawn_id d 0) at_mac.0 at_fixed.0 in
    let by_admin : Option Refusal = admin_only caller (port_for_admin caller form) in
    let os : List (Option Refusal) =
    unless_all GroupKind (is_group_for state.rows caller owner) (value_or [] form.security_groups)
    ∷ by_admin
    ∷ network_owner state.rows caller (port_for_owner form) n.id
    ∷ network_access state.rows caller n.id
    ∷ values_taken (is_address_held state.rows.ports n.id) (is_mac_held state.rows.ports n.id) n.id (first_known (subnets_on state.rows.subnets n.id) (mac_at_first state.rows.ports form n.id) form.fixed_ips) form
    ∷ over_quota settings state.rows owner PortKind
    ∷ [] in
    let plain = or_fails (is_given form.binding_host_id) (is_for_other caller form.project_id form.tenant_id) (unneeded caller (port_for_admin caller form) tenant (none_refused os passed.0 1 by_admin refl)) in
    let own : owner ≡ caller.project = own_owner caller form.project_id form.tenant_id plain.1 in
    let itself : bytes_eq owner caller.project ≡ true = ap (λ name. bytes_eq name caller.project) own ∙ bytes_itself caller.project in
    let now : RowLists = record d.rows { ports = d.rows.ports ++ p ∷ [] } in
    subst (Spares caller.project state.rows) (moved_rows now rows _ reply drawing.2)
    (spares_then caller.project state.rows d.rows now (draws_sparing state caller.project owner 1 d own drawing.1).spares (port_added_spares caller.project d.rows p itself))

pub port_updated_spares : (settings : SettingsParts) (state : State) (caller : Caller) (name : IdText) (form : PortForm) (rows : RowLists) (reply : Reply) → caller.admin ≡ false → IsConsistent state.rows
    → port_updated settings state caller name form ≡ Moved rows reply → Spares caller.project state.rows rows
port_updated_spares settings state caller name form rows reply tenant c h =
    let change : PortRow → NetworkRow → Outcome = λ p n. port_changed settings state caller form n p in
    let rest : PortRow → Outcome = λ p. needing (not_found PortKind name.text) (row_of (λ (n : NetworkRow). n.id) p.network state.rows.networks) (change p) in
    let found = needing_moved (not_found PortKind name.text) (port_seen state.rows caller name.id) rest rows reply h in
    let p : PortRow = found.0 in
    let here = named_is (λ (q : PortRow). q.id) (sees_port state.rows caller) state.rows.ports name.id p found.1 in
    let on = needing_moved (not_found PortKind name.text) (row_of (λ (n : NetworkRow). n.id) p.network state.rows.networks) (change p) rows reply found.2 in
    let n : NetworkRow = on.0 in
    let set : List Fixed → Outcome = λ fixed. port_replaced caller state.rows (changed_port settings form n p fixed) in
    let last : List Fixed → Outcome = λ fixed. unless (when (is_last state) CountersSpent) (set fixed) in
    let passed = unless_moved (update_refusal state.rows caller form p) (needing (PoolsSpent p.network) (addresses_after state.rows form p) last) rows reply on.2 in
    let at_fixed = needing_moved (PoolsSpent p.network) (addresses_after state.rows form p) last rows reply passed.1 in
    let still = unless_moved (when (is_last state) CountersSpent) (set at_fixed.0) rows reply at_fixed.2 in
    let new : PortRow = changed_port settings form n p at_fixed.0 in
    let by_owner : Option Refusal = owner_only caller p.project in
    let os : List (Option Refusal) =
    bad_next_fixed state.rows caller form p (subnets_on state.rows.subnets p.network)
    ∷ bad_bare_after form p
    ∷ unless_all SubnetKind (is_subnet_seen state.rows caller) (named_subnets (items_of form))
    ∷ unless_all GroupKind (is_group_for state.rows caller p.project) (value_or [] form.security_groups)
    ∷ admin_only caller (port_for_admin caller form)
    ∷ by_owner
    ∷ network_owner state.rows caller (port_for_owner form) p.network
    ∷ service_in_use state.rows caller (changes_service form) p
    ∷ values_taken (is_held_by_other state.rows.ports p) (is_mac_of_other state.rows.ports p) p.network (next_known (subnets_on state.rows.subnets p.network) p (mac_after form p) form.fixed_ips) form
    ∷ [] in
    let own = owned caller p.project tenant (none_refused os passed.0 5 by_owner refl) in
    let are = own_alone (λ (q : PortRow). q.id) (λ (q : PortRow). q.project) caller.project state.rows.ports here.place p (omega (arith, c.numbered.ids p.id)) here.at own in
    let put : RowLists = with_put state.rows (Port new) in
    subst (Spares caller.project state.rows) (moved_rows (made state.rows (port_edits state.rows.floatings new)) rows _ reply still.1)
    (spares_then caller.project state.rows put (made put (disassociations state.rows.floatings p.id new.fixed)) (port_put_spares caller.project state.rows new own are)
    (disassociated_spares caller.project state.rows put c p are refl new.fixed))

-- a port that the caller sees is its project's, or on a network of it
pub seen_may : (rows : RowLists) (caller : Caller) (p : PortRow) → caller.admin ≡ false → sees_port rows caller p ≡ true → bytes_eq p.project caller.project || is_network_of rows.networks caller.project p.network ≡ true
seen_may rows caller p tenant seen = ap (λ b. (b || bytes_eq p.project caller.project) || owns_network rows caller.project p.network) (sym tenant) ∙ seen

pub port_deleted_stays : (state : State) (caller : Caller) (name : IdText) (rows : RowLists) (reply : Reply) → caller.admin ≡ false → IsConsistent state.rows
    → port_deleted state caller name ≡ Moved rows reply → OthersStay caller.project state.rows rows
port_deleted_stays state caller name rows reply tenant c h =
    let gone : PortRow → Outcome = λ p. accepted state.rows (port_gone state.rows.floatings p.id) (λ after. NoRow) in
    let rest : PortRow → Outcome = λ p. unless (deletion_refusal state caller p) (gone p) in
    let found = needing_moved (not_found PortKind name.text) (port_seen state.rows caller name.id) rest rows reply h in
    let p : PortRow = found.0 in
    let here = named_is (λ (q : PortRow). q.id) (sees_port state.rows caller) state.rows.ports name.id p found.1 in
    let passed = unless_moved (deletion_refusal state caller p) (gone p) rows reply found.2 in
    subst (OthersStay caller.project state.rows) (moved_rows (made state.rows (port_gone state.rows.floatings p.id)) rows _ reply passed.1)
    (port_leaves state.rows c caller.project here.place p here.at (seen_may state.rows caller p tenant here.is_seen))
