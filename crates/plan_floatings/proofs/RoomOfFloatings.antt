-- Calls of floating addresses that move rows find room for one more version.
use Rattle.std.proofs.Common.{◌≡◌, ℕ, Bool, List, [], ◌∷◌, Option, Some, false, refl}
use Rattle.std.specs.Prelude.{codes}
use Rattle.net_addr.specs.Addresses.{number}
use Rattle.api_types.specs.Association.{with_target}
use Rattle.api_types.specs.Given.{owner_of, value_of}
use Rattle.api_types.specs.Outcome.{Moved, Outcome}
use Rattle.api_types.specs.Printed.{NoRow, OneRow, Reply}
use Rattle.api_types.specs.Refusing.{needing, not_found, unless, when}
use Rattle.api_types.specs.Registration.{Drawing, draw_of, drawn_id}
use Rattle.api_types.specs.RowLists.{RowLists}
use Rattle.api_types.specs.declared.call.Caller.{Caller}
use Rattle.api_types.specs.declared.call.IdText.{IdText}
use Rattle.api_types.specs.declared.floating.FloatingRow.{FloatingRow}
use Rattle.api_types.specs.declared.floating.Target.{Target}
use Rattle.api_types.specs.declared.form.FloatingForm.{FloatingForm}
use Rattle.api_types.specs.declared.kind.Kind.TheVariants.{Floating, Network, Port}
use Rattle.api_types.specs.declared.kind.Row.TheVariants.{Floating as FloatingOf}
use Rattle.api_types.specs.declared.network.NetworkRow.{NetworkRow}
use Rattle.api_types.specs.declared.port.Fixed.{Fixed}
use Rattle.api_types.specs.declared.refusal.Refusal.{Refusal}
use Rattle.api_types.specs.declared.refusal.Refusal.TheVariants.{CountersSpent, Invalid, PoolsSpent}
use Rattle.net_settings.specs.Settings.{SettingsParts}
use Rattle.api_ipam.specs.MacChoice.{free_mac}
use Rattle.api_policy.specs.Permits.{owner_only}
use Rattle.api_policy.specs.Quotas.{over_quota}
use Rattle.api_policy.specs.Seen.{floating_seen, network_seen}
use Rattle.call_parts.specs.BodyNames.{text_of}
use Rattle.call_parts.specs.Edits.{Drop, Put, accepted}
use Rattle.call_parts.specs.State.{State, drawing_at, is_last}
use Rattle.plan_floatings.specs.FloatingCalls as floatings
use Rattle.plan_floatings.proofs.AimsKept.{target_moved}
use Rattle.kept_laws.proofs.EditedRows.{none_refused}
use Rattle.kept_laws.proofs.OutcomeLemmas.{if_some, needing_moved, not_when, unless_moved}

module _ (settings : SettingsParts) (state : State) (caller : Caller) (rows : RowLists) (reply : Reply) where
  pub floating_created_room : (form : FloatingForm) → floatings.floating_created settings state caller form ≡ Moved rows reply → is_last state ≡ false
  floating_created_room form h =
      let owner : List ℕ = owner_of caller form.project_id form.tenant_id in
      let seen : Option NetworkRow = network_seen state.rows caller (value_of form.floating_network_id) in
      let last : NetworkRow → Option Target → Fixed → ℕ → Drawing → Outcome = λ n target outer mac d.
      let f : FloatingRow = floatings.new_floating form owner n (drawn_id d 0) (drawn_id d 1) (number outer.address) target in
      floatings.floating_added caller d.rows f (floatings.own_port settings n f mac outer) in
      let draw : NetworkRow → Option Target → Fixed → ℕ → Outcome = λ n target outer mac. needing CountersSpent (drawing_at state owner 2) (last n target outer mac) in
      let with_mac : NetworkRow → Option Target → Fixed → Outcome = λ n target outer. needing CountersSpent (free_mac state.rows.ports n.id) (draw n target outer) in
      let held : NetworkRow → Option Target → Outcome = λ n target. needing (PoolsSpent n.id) (floatings.outer_address state.rows n.id (value_of form.floating_ip_address)) (with_mac n target) in
      let with : NetworkRow → Option Target → Outcome = λ n target. floatings.floating_with settings state caller form owner n target in
      let led : NetworkRow → Outcome = λ n. with_target state.rows owner n.id (floatings.aim_asked state.rows caller form) (with n) in
      let made : NetworkRow → Outcome = λ n. unless (floatings.creation_refusal state.rows caller form n) (led n) in
      let on : Outcome = needing (not_found Network (text_of (value_of form.floating_network_id))) seen made in
      let body = unless_moved (floatings.body_refusal state.rows caller form owner seen) on rows reply h in
      let found = needing_moved (not_found Network (text_of (value_of form.floating_network_id))) seen made rows reply body.1 in
      let n : NetworkRow = found.0 in
      let passed = unless_moved (floatings.creation_refusal state.rows caller form n) (led n) rows reply found.2 in
      let goal = target_moved state.rows owner n.id (floatings.aim_asked state.rows caller form) (with n) rows reply passed.1 in
      let target : Option Target = goal.0 in
      let quota = unless_moved (over_quota settings state.rows owner Floating) (held n target) rows reply goal.2 in
      let outer = needing_moved (PoolsSpent n.id) (floatings.outer_address state.rows n.id (value_of form.floating_ip_address)) (with_mac n target) rows reply quota.1 in
      let mac = needing_moved CountersSpent (free_mac state.rows.ports n.id) (draw n target outer.0) rows reply outer.2 in
      let drawing = needing_moved CountersSpent (drawing_at state owner 2) (last n target outer.0 mac.0) rows reply mac.2 in
      (if_some (is_last state) (draw_of state.rows owner 2) drawing.0 drawing.1).0

  pub floating_updated_room : (name : IdText) (form : FloatingForm) → floatings.floating_updated state caller name form ≡ Moved rows reply → is_last state ≡ false
  floating_updated_room name form h =
      let lacking : Option Refusal = when (floatings.lacks_port form) (Invalid (codes "fixed_ip_address")) in
      let on : Outcome = needing (not_found Floating name.text) (floating_seen state.rows caller name.id) (floatings.floating_changed state caller form) in
      let alone = unless_moved lacking on rows reply h in
      let found = needing_moved (not_found Floating name.text) (floating_seen state.rows caller name.id) (floatings.floating_changed state caller form) rows reply alone.1 in
      let f : FloatingRow = found.0 in
      let rest : Option Target → Outcome = λ target. floatings.floating_replaced state caller (floatings.changed_floating form f target) in
      let led : Outcome = with_target state.rows f.project f.network (floatings.aim_asked state.rows caller form) rest in
      let passed = unless_moved (floatings.update_refusal state caller form f) led rows reply found.2 in
      let goal = target_moved state.rows f.project f.network (floatings.aim_asked state.rows caller form) rest rows reply passed.1 in
      let g : FloatingRow = floatings.changed_floating form f goal.0 in
      let put : Outcome = accepted state.rows (Put (FloatingOf g) ∷ []) (λ after. OneRow (floatings.floating_shown after caller g [])) in
      let last = unless_moved (when (is_last state) CountersSpent) put rows reply goal.2 in
      not_when (is_last state) CountersSpent last.0

  pub floating_deleted_room : (name : IdText) → floatings.floating_deleted state caller name ≡ Moved rows reply → is_last state ≡ false
  floating_deleted_room name h =
      let gone : FloatingRow → Outcome = λ f. accepted state.rows (Drop Port f.own_port ∷ Drop Floating f.id ∷ []) (λ after. NoRow) in
      let rest : FloatingRow → Outcome = λ f. unless (floatings.deletion_refusal state caller f) (gone f) in
      let found = needing_moved (not_found Floating name.text) (floating_seen state.rows caller name.id) rest rows reply h in
      let f : FloatingRow = found.0 in
      let passed = unless_moved (floatings.deletion_refusal state caller f) (gone f) rows reply found.2 in
      let last : Option Refusal = when (is_last state) CountersSpent in
      not_when (is_last state) CountersSpent (none_refused (owner_only caller f.project ∷ last ∷ []) passed.0 1 last refl)
