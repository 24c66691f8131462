-- Calls of routers and of their interfaces that move rows find room for one more version.
use Rattle.std.proofs.Common.{◌≡◌, ℕ, Bool, List, [], ◌∷◌, Option, None, Some, true, false, refl}
use Rattle.std.specs.Prelude.{codes, find, unwrap_or, ◌++◌}
use Rattle.net_addr.specs.declared.address.Addr.{Addr}
use Rattle.api_types.specs.Given.{owner_of}
use Rattle.api_types.specs.HeldAddresses.{fixed_at}
use Rattle.api_types.specs.Ident.{Ident, ident_text}
use Rattle.api_types.specs.Outcome.{Moved, Outcome}
use Rattle.api_types.specs.Owners.{holds_in}
use Rattle.api_types.specs.Printed.{InterfaceRow, NoRow, OneRow, Reply}
use Rattle.api_types.specs.Refusing.{needing, not_found, unless, when}
use Rattle.api_types.specs.Registration.{Drawing, draw_of, drawn_id}
use Rattle.api_types.specs.RouterWays.{interfaces_of}
use Rattle.api_types.specs.RowLists.{RowLists}
use Rattle.api_types.specs.Table.{row_of}
use Rattle.api_types.specs.declared.call.Caller.{Caller}
use Rattle.api_types.specs.declared.call.IdText.{IdText}
use Rattle.api_types.specs.declared.call.InterfaceBy.{InterfaceBy}
use Rattle.api_types.specs.declared.call.InterfaceBy.TheVariants.{Port as ByPort, Subnet as BySubnet}
use Rattle.api_types.specs.declared.form.RouterForm.{RouterForm}
use Rattle.api_types.specs.declared.kind.Kind.TheVariants.{Port, Router, Subnet}
use Rattle.api_types.specs.declared.kind.Row.TheVariants.{Port as PortOf}
use Rattle.api_types.specs.declared.network.NetworkRow.{NetworkRow}
use Rattle.api_types.specs.declared.port.Fixed.{Fixed}
use Rattle.api_types.specs.declared.port.PortRow.{PortRow}
use Rattle.api_types.specs.declared.refusal.Refusal.{Refusal}
use Rattle.api_types.specs.declared.refusal.Refusal.TheVariants.{CountersSpent, Invalid, PoolsSpent}
use Rattle.api_types.specs.declared.router.RouterRow.{RouterRow}
use Rattle.api_types.specs.declared.subnet.SubnetRow.{SubnetRow}
use Rattle.net_settings.specs.Settings.{SettingsParts}
use Rattle.api_ipam.specs.MacChoice.{free_mac}
use Rattle.api_policy.specs.Permits.{network_owner, owner_only}
use Rattle.api_policy.specs.Seen.{port_seen, router_seen, subnet_seen}
use Rattle.api_policy.specs.Uses.{floating_in_use, port_in_use, route_in_use, router_in_use}
use Rattle.call_parts.specs.Edits.{Drop, Put, accepted}
use Rattle.call_parts.specs.State.{State, drawing_at, is_last}
use Rattle.plan_routers.specs.InterfaceCalls as interfaces
use Rattle.api_policy.specs.Reserved.{snat_asked}
use Rattle.plan_routers.specs.RouterCalls as routers
use Rattle.api_router.specs.RouterRules.{bad_interface_port}
use Rattle.kept_laws.proofs.EditedRows.{none_refused}
use Rattle.kept_laws.proofs.OutcomeLemmas.{if_some, needing_moved, not_when, unless_moved}

module _ (settings : SettingsParts) (state : State) (caller : Caller) (rows : RowLists) (reply : Reply) where
  -- ids are drawn where there is room
  by_drawing : (name : List ℕ) (many : ℕ) (d : Drawing) → drawing_at state name many ≡ Some d → is_last state ≡ false
  by_drawing name many d at = (if_some (is_last state) (draw_of state.rows name many) d at).0

  made_room : (form : RouterForm) (owner : List ℕ) (n : Option NetworkRow) → routers.router_with settings state caller form owner n ≡ Moved rows reply → is_last state ≡ false
  made_room form owner None h =
      let add : Drawing → Outcome = λ d. routers.router_added caller d.rows (routers.new_router settings form owner (drawn_id d 0)) (routers.new_router settings form owner (drawn_id d 0)) [] in
      let drawing = needing_moved CountersSpent (drawing_at state owner 1) add rows reply h in
      by_drawing owner 1 drawing.0 drawing.1
  made_room form owner (Some n) h =
      let add : List Fixed → ℕ → Drawing → Outcome = λ fixed mac d.
      let r : RouterRow = routers.new_router settings form owner (drawn_id d 0) in
      routers.gateway_added caller d.rows r (routers.gateway_port settings r n (drawn_id d 1) mac fixed) (unwrap_or (snat_asked form) true) in
      let draw : List Fixed → ℕ → Outcome = λ fixed mac. needing CountersSpent (drawing_at state owner 2) (add fixed mac) in
      let with_mac : List Fixed → Outcome = λ fixed. needing CountersSpent (free_mac state.rows.ports n.id) (draw fixed) in
      let fixed = needing_moved (PoolsSpent n.id) (routers.outer_addresses state.rows n) with_mac rows reply h in
      let mac = needing_moved CountersSpent (free_mac state.rows.ports n.id) (draw fixed.0) rows reply fixed.2 in
      let drawing = needing_moved CountersSpent (drawing_at state owner 2) (add fixed.0 mac.0) rows reply mac.2 in
      by_drawing owner 2 drawing.0 drawing.1

  pub router_created_room : (form : RouterForm) → routers.router_created settings state caller form ≡ Moved rows reply → is_last state ≡ false
  router_created_room form h =
      let owner : List ℕ = owner_of caller form.project_id form.tenant_id in
      let n : Option NetworkRow = routers.gateway_network state.rows caller form in
      let passed = unless_moved (routers.creation_refusal settings state.rows caller form owner) (routers.router_with settings state caller form owner n) rows reply h in
      made_room form owner n passed.1

  moved_room : (form : RouterForm) (old new : RouterRow) (n : Option NetworkRow) → routers.router_moved settings state caller form old new n ≡ Moved rows reply → is_last state ≡ false
  moved_room form old new None h =
      let last = unless_moved (when (is_last state) CountersSpent) (routers.router_replaced caller state.rows old new new []) rows reply h in
      not_when (is_last state) CountersSpent last.0
  moved_room form old new (Some n) h =
      let put : List Fixed → ℕ → Drawing → Outcome = λ fixed mac d.
      routers.gateway_replaced caller d.rows old new (routers.gateway_port settings old n (drawn_id d 0) mac fixed) (unwrap_or (snat_asked form) (routers.old_snat old.gateway)) in
      let draw : List Fixed → ℕ → Outcome = λ fixed mac. needing CountersSpent (drawing_at state old.project 1) (put fixed mac) in
      let with_mac : List Fixed → Outcome = λ fixed. needing CountersSpent (free_mac state.rows.ports n.id) (draw fixed) in
      let fixed = needing_moved (PoolsSpent n.id) (routers.outer_addresses state.rows n) with_mac rows reply h in
      let mac = needing_moved CountersSpent (free_mac state.rows.ports n.id) (draw fixed.0) rows reply fixed.2 in
      let drawing = needing_moved CountersSpent (drawing_at state old.project 1) (put fixed.0 mac.0) rows reply mac.2 in
      by_drawing old.project 1 drawing.0 drawing.1

  pub router_updated_room : (name : IdText) (form : RouterForm) → routers.router_updated settings state caller name form ≡ Moved rows reply → is_last state ≡ false
  router_updated_room name form h =
      let change : RouterRow → Outcome = λ r. routers.router_changed settings state caller form r (routers.changed_router form r) in
      let found = needing_moved (not_found Router name.text) (router_seen state.rows caller name.id) change rows reply h in
      let r : RouterRow = found.0 in
      let new : RouterRow = routers.changed_router form r in
      let n : Option NetworkRow = routers.new_gateway (routers.gateway_network state.rows caller form) new.gateway in
      let passed = unless_moved (routers.update_refusal state.rows caller form r new) (routers.router_moved settings state caller form r new n) rows reply found.2 in
      moved_room form r new n passed.1

  pub router_deleted_room : (name : IdText) → routers.router_deleted state caller name ≡ Moved rows reply → is_last state ≡ false
  router_deleted_room name h =
      let gone : RouterRow → Outcome = λ r. accepted state.rows (routers.gateway_gone r.gateway ++ Drop Router r.id ∷ []) (λ after. NoRow) in
      let rest : RouterRow → Outcome = λ r. unless (routers.deletion_refusal state caller r) (gone r) in
      let found = needing_moved (not_found Router name.text) (router_seen state.rows caller name.id) rest rows reply h in
      let r : RouterRow = found.0 in
      let passed = unless_moved (routers.deletion_refusal state caller r) (gone r) rows reply found.2 in
      let last : Option Refusal = when (is_last state) CountersSpent in
      not_when (is_last state) CountersSpent (none_refused (owner_only caller r.project ∷ router_in_use state.rows caller r ∷ last ∷ []) passed.0 2 last refl)

  by_subnet_room : (r : RouterRow) (s : SubnetRow) (n : NetworkRow) (x : Addr) → interfaces.added_by_subnet settings state caller r s n x ≡ Moved rows reply → is_last state ≡ false
  by_subnet_room r s n x h =
      let make : ℕ → Drawing → Outcome = λ mac d. interfaces.interface_made d.rows r (interfaces.interface_port settings d.rows caller r n (drawn_id d 0) mac (fixed_at s.id x)) s.id in
      let draw : ℕ → Outcome = λ mac. needing CountersSpent (drawing_at state r.project 1) (make mac) in
      let passed = unless_moved (interfaces.subnet_refusal state.rows caller r s x) (needing CountersSpent (free_mac state.rows.ports n.id) draw) rows reply h in
      let mac = needing_moved CountersSpent (free_mac state.rows.ports n.id) draw rows reply passed.1 in
      let drawing = needing_moved CountersSpent (drawing_at state r.project 1) (make mac.0) rows reply mac.2 in
      by_drawing r.project 1 drawing.0 drawing.1

  by_port_room : (r : RouterRow) (p : PortRow) (n : NetworkRow) → interfaces.added_by_port settings state caller r p n ≡ Moved rows reply → is_last state ≡ false
  by_port_room r p n h =
      let taken : Outcome = accepted state.rows (Put (PortOf (interfaces.taken_over settings r n p)) ∷ []) (λ after. InterfaceRow (interfaces.interface_shown r p (interfaces.first_subnet p.fixed))) in
      let passed = unless_moved (interfaces.port_refusal state caller r p) taken rows reply h in
      let last : Option Refusal = when (is_last state) CountersSpent in
      not_when (is_last state) CountersSpent (none_refused (bad_interface_port state.rows r p ∷ owner_only caller r.project ∷ owner_only caller p.project ∷ port_in_use state.rows caller r p ∷ last ∷ []) passed.0 4 last refl)

  added_room : (r : RouterRow) (by : InterfaceBy) → interfaces.interface_by settings state caller r by ≡ Moved rows reply → is_last state ≡ false
  added_room r (BySubnet i) h =
      let add : SubnetRow → Addr → NetworkRow → Outcome = λ s x n. interfaces.added_by_subnet settings state caller r s n x in
      let on : SubnetRow → Addr → Outcome = λ s x. needing (not_found Subnet (ident_text i)) (row_of (λ (n : NetworkRow). n.id) s.network state.rows.networks) (add s x) in
      let with : SubnetRow → Outcome = λ s. needing (Invalid (codes "subnet_id")) s.gateway (on s) in
      let seen = needing_moved (not_found Subnet (ident_text i)) (subnet_seen state.rows caller (Some i)) with rows reply h in
      let s : SubnetRow = seen.0 in
      let gateway = needing_moved (Invalid (codes "subnet_id")) s.gateway (on s) rows reply seen.2 in
      let found = needing_moved (not_found Subnet (ident_text i)) (row_of (λ (n : NetworkRow). n.id) s.network state.rows.networks) (add s gateway.0) rows reply gateway.2 in
      by_subnet_room r s found.0 gateway.0 found.2
  added_room r (ByPort i) h =
      let add : PortRow → NetworkRow → Outcome = λ p n. interfaces.added_by_port settings state caller r p n in
      let on : PortRow → Outcome = λ p. needing (not_found Port (ident_text i)) (row_of (λ (n : NetworkRow). n.id) p.network state.rows.networks) (add p) in
      let seen = needing_moved (not_found Port (ident_text i)) (port_seen state.rows caller (Some i)) on rows reply h in
      let p : PortRow = seen.0 in
      let found = needing_moved (not_found Port (ident_text i)) (row_of (λ (n : NetworkRow). n.id) p.network state.rows.networks) (add p) rows reply seen.2 in
      by_port_room r p found.0 found.2

  pub interface_added_room : (name : IdText) (by : InterfaceBy) → interfaces.interface_added settings state caller name by ≡ Moved rows reply → is_last state ≡ false
  interface_added_room name by h =
      let add : RouterRow → Outcome = λ r. interfaces.interface_by settings state caller r by in
      let found = needing_moved (not_found Router name.text) (router_seen state.rows caller name.id) add rows reply h in
      added_room found.0 by found.2

  port_removed_room : (r : RouterRow) (owner : Option Refusal) (p : PortRow) → interfaces.port_removed state caller r owner p ≡ Moved rows reply → is_last state ≡ false
  port_removed_room r owner p h =
      let gone : Outcome = accepted state.rows (interfaces.interface_gone state.rows.floatings p) (λ after. InterfaceRow (interfaces.interface_shown r p (interfaces.first_subnet p.fixed))) in
      let passed = unless_moved (interfaces.removal_refusal state caller r p owner) gone rows reply h in
      let last : Option Refusal = when (is_last state) CountersSpent in
      not_when (is_last state) CountersSpent (none_refused (owner_only caller r.project ∷ owner ∷ route_in_use state.rows caller r r.routes p ∷ floating_in_use state.rows caller r p ∷ last ∷ []) passed.0 4 last refl)

  removed_room : (r : RouterRow) (by : InterfaceBy) → interfaces.removed_by state caller r by ≡ Moved rows reply → is_last state ≡ false
  removed_room r (BySubnet i) h =
      let owner : SubnetRow → Option Refusal = λ s. network_owner state.rows caller true s.network in
      let port : Option PortRow = find (holds_in i) (interfaces_of state.rows.ports r) in
      let from : SubnetRow → Outcome = λ s. needing (interfaces.no_interface i) port (interfaces.port_removed state caller r (owner s)) in
      let seen = needing_moved (not_found Subnet (ident_text i)) (subnet_seen state.rows caller (Some i)) from rows reply h in
      let found = needing_moved (interfaces.no_interface i) port (interfaces.port_removed state caller r (owner seen.0)) rows reply seen.2 in
      port_removed_room r (owner seen.0) found.0 found.2
  removed_room r (ByPort i) h =
      let owner : PortRow → Option Refusal = λ p. owner_only caller p.project in
      let port : Option PortRow = row_of (λ (q : PortRow). q.id) i (interfaces_of state.rows.ports r) in
      let from : PortRow → Outcome = λ p. needing (interfaces.no_interface i) port (interfaces.port_removed state caller r (owner p)) in
      let seen = needing_moved (not_found Port (ident_text i)) (port_seen state.rows caller (Some i)) from rows reply h in
      let found = needing_moved (interfaces.no_interface i) port (interfaces.port_removed state caller r (owner seen.0)) rows reply seen.2 in
      port_removed_room r (owner seen.0) found.0 found.2

  pub interface_removed_room : (name : IdText) (by : InterfaceBy) → interfaces.interface_removed state caller name by ≡ Moved rows reply → is_last state ≡ false
  interface_removed_room name by h =
      let remove : RouterRow → Outcome = λ r. interfaces.removed_by state caller r by in
      let found = needing_moved (not_found Router name.text) (router_seen state.rows caller name.id) remove rows reply h in
      removed_room found.0 by found.2
