-- Calls of subnets that move rows find room for one more version.
use Rattle.std.proofs.Common.{◌≡◌, ℕ, Bool, List, [], ◌∷◌, Option, Some, false, true, refl, not}
use Rattle.std.specs.Prelude.{if◌then◌else◌, option_and_then, ◌&&◌}
use Rattle.net_addr.specs.declared.address.Addr.{Addr}
use Rattle.api_types.specs.Given.{value_of}
use Rattle.api_types.specs.HeldAddresses.{fixed_at}
use Rattle.api_types.specs.Outcome.{Moved, Outcome}
use Rattle.api_types.specs.Printed.{NoRow, OneRow, Reply}
use Rattle.api_types.specs.Refusing.{needing, not_found, unless, when}
use Rattle.api_types.specs.Registration.{Drawing, draw_of, drawn_id}
use Rattle.api_types.specs.RowLists.{RowLists}
use Rattle.api_types.specs.Table.{row_of}
use Rattle.api_types.specs.declared.call.Caller.{Caller}
use Rattle.api_types.specs.declared.call.IdText.{IdText}
use Rattle.api_types.specs.declared.form.SubnetForm.{SubnetForm}
use Rattle.api_types.specs.declared.kind.Kind.TheVariants.{Network, Subnet}
use Rattle.api_types.specs.declared.network.NetworkRow.{NetworkRow}
use Rattle.api_types.specs.declared.refusal.Refusal.{Refusal}
use Rattle.api_types.specs.declared.refusal.Refusal.TheVariants.{CountersSpent, PoolsSpent}
use Rattle.api_types.specs.declared.subnet.SubnetRow.{SubnetRow}
use Rattle.net_settings.specs.Settings.{SettingsParts}
use Rattle.api_ipam.specs.MacChoice.{mac_if}
use Rattle.api_policy.specs.Permits.{network_owner}
use Rattle.api_policy.specs.Seen.{network_seen, subnet_seen}
use Rattle.api_policy.specs.Uses.{subnet_in_use}
use Rattle.call_parts.specs.BodyNames.{no_id, text_of}
use Rattle.call_parts.specs.Edits.{accepted}
use Rattle.call_parts.specs.State.{State, drawing_at, is_last}
use Rattle.plan_subnets.specs.DhcpUpkeep.{dhcp_address, makes_dhcp_port}
use Rattle.plan_subnets.specs.SubnetCalls as subnets
use Rattle.plan_subnets.specs.SubnetRules.{bad_cidr, bad_parts, bad_subnet}
use Rattle.kept_laws.proofs.EditedRows.{none_refused}
use Rattle.kept_laws.proofs.OutcomeLemmas.{if_some, needing_moved, not_when, unless_moved}

module _ (settings : SettingsParts) (state : State) (caller : Caller) (rows : RowLists) (reply : Reply) where
  -- ids are drawn where there is room
  by_drawing : (name : List ℕ) (many : ℕ) (d : Drawing) → drawing_at state name many ≡ Some d → is_last state ≡ false
  by_drawing name many d at = (if_some (is_last state) (draw_of state.rows name many) d at).0

  pub subnet_created_room : (form : SubnetForm) → subnets.subnet_created settings state caller form ≡ Moved rows reply → is_last state ≡ false
  subnet_created_room form h =
      let seen : Option NetworkRow = network_seen state.rows caller (value_of form.network_id) in
      let makes : NetworkRow → Bool = λ n. makes_dhcp_port state.rows.ports n.id (subnets.dhcp_asked form) in
      let many : NetworkRow → ℕ = λ n. if makes n then 2 else 1 in
      let address : NetworkRow → Option Addr = λ n. dhcp_address state.rows.ports n.id (subnets.dhcp_asked form) (subnets.new_subnet form n no_id) in
      let add : NetworkRow → Addr → ℕ → Drawing → Outcome = λ n x mac d. subnets.subnet_added settings caller d n (subnets.new_subnet form n (drawn_id d 0)) x mac in
      let draw : NetworkRow → Addr → ℕ → Outcome = λ n x mac. needing CountersSpent (drawing_at state n.project (many n)) (add n x mac) in
      let with_mac : NetworkRow → Addr → Outcome = λ n x. needing CountersSpent (mac_if (makes n) state.rows.ports n.id) (draw n x) in
      let lease : NetworkRow → Outcome = λ n. needing (PoolsSpent n.id) (address n) (with_mac n) in
      let made : NetworkRow → Outcome = λ n. unless (subnets.creation_refusal settings state.rows caller n) (lease n) in
      let on : Outcome = needing (not_found Network (text_of (value_of form.network_id))) seen made in
      let overlap : Option Refusal = option_and_then (bad_cidr state.rows (subnets.prefix_asked form)) seen in
      let ranges : Option Refusal = bad_subnet (subnets.prefix_asked form) (subnets.gateway_asked form) (subnets.pools_asked form) in
      let parts = unless_moved (bad_parts form) (unless overlap (unless ranges on)) rows reply h in
      let apart = unless_moved overlap (unless ranges on) rows reply parts.1 in
      let within = unless_moved ranges on rows reply apart.1 in
      let found = needing_moved (not_found Network (text_of (value_of form.network_id))) seen made rows reply within.1 in
      let n : NetworkRow = found.0 in
      let passed = unless_moved (subnets.creation_refusal settings state.rows caller n) (lease n) rows reply found.2 in
      let leased = needing_moved (PoolsSpent n.id) (address n) (with_mac n) rows reply passed.1 in
      let mac = needing_moved CountersSpent (mac_if (makes n) state.rows.ports n.id) (draw n leased.0) rows reply leased.2 in
      let drawing = needing_moved CountersSpent (drawing_at state n.project (many n)) (add n leased.0 mac.0) rows reply mac.2 in
      by_drawing n.project (many n) drawing.0 drawing.1

  pub subnet_updated_room : (name : IdText) (form : SubnetForm) → subnets.subnet_updated settings state caller name form ≡ Moved rows reply → is_last state ≡ false
  subnet_updated_room name form h =
      let on : SubnetRow → NetworkRow → Outcome = λ s n. subnets.subnet_changed settings state caller form n s (subnets.changed_subnet form s) in
      let placed : SubnetRow → Outcome = λ s. needing (not_found Subnet name.text) (row_of (λ (n : NetworkRow). n.id) s.network state.rows.networks) (on s) in
      let seen = needing_moved (not_found Subnet name.text) (subnet_seen state.rows caller name.id) placed rows reply h in
      let old : SubnetRow = seen.0 in
      let new : SubnetRow = subnets.changed_subnet form old in
      let found = needing_moved (not_found Subnet name.text) (row_of (λ (n : NetworkRow). n.id) old.network state.rows.networks) (on old) rows reply seen.2 in
      let n : NetworkRow = found.0 in
      let begins : Bool = new.dhcp && not old.dhcp in
      let makes : Bool = makes_dhcp_port state.rows.ports n.id begins in
      let many : ℕ = if makes then 1 else 0 in
      let set : Addr → ℕ → Drawing → Outcome = λ x mac d. accepted d.rows (subnets.subnet_edits settings d.rows n old new (drawn_id d 0) mac (fixed_at new.id x)) (λ after. OneRow (subnets.subnet_shown after caller new [])) in
      let draw : Addr → ℕ → Outcome = λ x mac. needing CountersSpent (drawing_at state n.project many) (set x mac) in
      let with_mac : Addr → Outcome = λ x. needing CountersSpent (mac_if makes state.rows.ports n.id) (draw x) in
      let passed = unless_moved (subnets.update_refusal state.rows caller form old new) (needing (PoolsSpent n.id) (dhcp_address state.rows.ports n.id begins new) with_mac) rows reply found.2 in
      let leased = needing_moved (PoolsSpent n.id) (dhcp_address state.rows.ports n.id begins new) with_mac rows reply passed.1 in
      let mac = needing_moved CountersSpent (mac_if makes state.rows.ports n.id) (draw leased.0) rows reply leased.2 in
      let drawing = needing_moved CountersSpent (drawing_at state n.project many) (set leased.0 mac.0) rows reply mac.2 in
      by_drawing n.project many drawing.0 drawing.1

  pub subnet_deleted_room : (name : IdText) → subnets.subnet_deleted state caller name ≡ Moved rows reply → is_last state ≡ false
  subnet_deleted_room name h =
      let gone : SubnetRow → Outcome = λ s. accepted state.rows (subnets.subnet_gone state.rows s) (λ after. NoRow) in
      let rest : SubnetRow → Outcome = λ s. unless (subnets.deletion_refusal state caller s) (gone s) in
      let found = needing_moved (not_found Subnet name.text) (subnet_seen state.rows caller name.id) rest rows reply h in
      let s : SubnetRow = found.0 in
      let passed = unless_moved (subnets.deletion_refusal state caller s) (gone s) rows reply found.2 in
      let last : Option Refusal = when (is_last state) CountersSpent in
      not_when (is_last state) CountersSpent (none_refused (network_owner state.rows caller true s.network ∷ subnet_in_use state.rows caller s.id ∷ last ∷ []) passed.0 2 last refl)
