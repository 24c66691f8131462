-- Calls of ports that move rows find room for one more version.
use Rattle.std.proofs.Common.{◌≡◌, ℕ, List, [], ◌∷◌, Option, Some, false, true, refl}
use Rattle.std.specs.Prelude.{◌++◌}
use Rattle.api_types.specs.Given.{owner_of, value_of}
use Rattle.api_types.specs.Outcome.{Moved, Outcome}
use Rattle.api_types.specs.Printed.{NoRow, Reply}
use Rattle.api_types.specs.Refusing.{needing, not_found, unless, when}
use Rattle.api_types.specs.Registration.{Drawing, draw_of, drawn_id}
use Rattle.api_types.specs.RowLists.{RowLists}
use Rattle.api_types.specs.Table.{row_of}
use Rattle.api_types.specs.declared.call.Caller.{Caller}
use Rattle.api_types.specs.declared.call.IdText.{IdText}
use Rattle.api_types.specs.declared.form.PortForm.{PortForm}
use Rattle.api_types.specs.declared.kind.Kind.TheVariants.{Network, Port}
use Rattle.api_types.specs.declared.network.NetworkRow.{NetworkRow}
use Rattle.api_types.specs.declared.port.Fixed.{Fixed}
use Rattle.api_types.specs.declared.port.PortRow.{PortRow}
use Rattle.api_types.specs.declared.refusal.Refusal.{Refusal}
use Rattle.api_types.specs.declared.refusal.Refusal.TheVariants.{CountersSpent, PoolsSpent}
use Rattle.net_settings.specs.Settings.{SettingsParts}
use Rattle.api_ipam.specs.MacChoice.{mac_for}
use Rattle.api_policy.specs.Permits.{port_delete}
use Rattle.api_policy.specs.Seen.{network_seen, port_seen}
use Rattle.api_policy.specs.Uses.{service_in_use}
use Rattle.call_parts.specs.BodyNames.{text_of}
use Rattle.call_parts.specs.Edits.{accepted}
use Rattle.call_parts.specs.State.{State, drawing_at, is_last}
use Rattle.plan_ports.specs.PortCalls as ports
use Rattle.kept_laws.proofs.EditedRows.{none_refused}
use Rattle.kept_laws.proofs.OutcomeLemmas.{if_some, needing_moved, not_when, unless_moved}

module _ (settings : SettingsParts) (state : State) (caller : Caller) (rows : RowLists) (reply : Reply) where
  -- ids are drawn where there is room
  by_drawing : (name : List ℕ) (many : ℕ) (d : Drawing) → drawing_at state name many ≡ Some d → is_last state ≡ false
  by_drawing name many d at = (if_some (is_last state) (draw_of state.rows name many) d at).0

  pub port_created_room : (form : PortForm) → ports.port_created settings state caller form ≡ Moved rows reply → is_last state ≡ false
  port_created_room form h =
      let owner : List ℕ = owner_of caller form.project_id form.tenant_id in
      let seen : Option NetworkRow = network_seen state.rows caller (value_of form.network_id) in
      let make : NetworkRow → Outcome = λ n. ports.port_made settings state caller form n owner in
      let last : NetworkRow → List Fixed → ℕ → Drawing → Outcome = λ n fixed mac d. ports.port_added caller d.rows (ports.new_port settings d.rows caller form n owner (drawn_id d 0) mac fixed) in
      let draw : NetworkRow → List Fixed → ℕ → Outcome = λ n fixed mac. needing CountersSpent (drawing_at state owner 1) (last n fixed mac) in
      let with_mac : NetworkRow → List Fixed → Outcome = λ n fixed. needing CountersSpent (mac_for state.rows.ports n.id form.mac_address) (draw n fixed) in
      let body = unless_moved (ports.body_refusal state.rows caller form) (needing (not_found Network (text_of (value_of form.network_id))) seen make) rows reply h in
      let found = needing_moved (not_found Network (text_of (value_of form.network_id))) seen make rows reply body.1 in
      let n : NetworkRow = found.0 in
      let first = unless_moved (ports.creation_refusal settings state.rows caller form n owner) (needing (PoolsSpent n.id) (ports.addresses_at_first state.rows form n.id) (with_mac n)) rows reply found.2 in
      let addresses = needing_moved (PoolsSpent n.id) (ports.addresses_at_first state.rows form n.id) (with_mac n) rows reply first.1 in
      let mac = needing_moved CountersSpent (mac_for state.rows.ports n.id form.mac_address) (draw n addresses.0) rows reply addresses.2 in
      let drawing = needing_moved CountersSpent (drawing_at state owner 1) (last n addresses.0 mac.0) rows reply mac.2 in
      by_drawing owner 1 drawing.0 drawing.1

  pub port_updated_room : (name : IdText) (form : PortForm) → ports.port_updated settings state caller name form ≡ Moved rows reply → is_last state ≡ false
  port_updated_room name form h =
      let on : PortRow → NetworkRow → Outcome = λ p n. ports.port_changed settings state caller form n p in
      let placed : PortRow → Outcome = λ p. needing (not_found Port name.text) (row_of (λ (n : NetworkRow). n.id) p.network state.rows.networks) (on p) in
      let seen = needing_moved (not_found Port name.text) (port_seen state.rows caller name.id) placed rows reply h in
      let p : PortRow = seen.0 in
      let found = needing_moved (not_found Port name.text) (row_of (λ (n : NetworkRow). n.id) p.network state.rows.networks) (on p) rows reply seen.2 in
      let n : NetworkRow = found.0 in
      let last : Option Refusal = when (is_last state) CountersSpent in
      let set : List Fixed → Outcome = λ fixed. unless last (ports.port_replaced caller state.rows (ports.changed_port settings form n p fixed)) in
      let passed = unless_moved (ports.update_refusal state.rows caller form p) (needing (PoolsSpent p.network) (ports.addresses_after state.rows form p) set) rows reply found.2 in
      let addresses = needing_moved (PoolsSpent p.network) (ports.addresses_after state.rows form p) set rows reply passed.1 in
      let rest = unless_moved last (ports.port_replaced caller state.rows (ports.changed_port settings form n p addresses.0)) rows reply addresses.2 in
      not_when (is_last state) CountersSpent rest.0

  pub port_deleted_room : (name : IdText) → ports.port_deleted state caller name ≡ Moved rows reply → is_last state ≡ false
  port_deleted_room name h =
      let gone : PortRow → Outcome = λ p. accepted state.rows (ports.port_gone state.rows.floatings p.id) (λ after. NoRow) in
      let rest : PortRow → Outcome = λ p. unless (ports.deletion_refusal state caller p) (gone p) in
      let found = needing_moved (not_found Port name.text) (port_seen state.rows caller name.id) rest rows reply h in
      let p : PortRow = found.0 in
      let passed = unless_moved (ports.deletion_refusal state caller p) (gone p) rows reply found.2 in
      let last : Option Refusal = when (is_last state) CountersSpent in
      not_when (is_last state) CountersSpent (none_refused (port_delete state.rows caller p ∷ service_in_use state.rows caller true p ∷ last ∷ []) passed.0 2 last refl)
