-- A call that moves rows finds room for one more version.
use Rattle.std.proofs.Common.{◌≡◌, ℕ, ◌+◌, List, [], ◌∷◌, Option, Some, true, false, refl}
use Rattle.std.specs.Prelude.{codes, option_map}
use Rattle.api_types.specs.Given.{are_unlike, owner_of, value_of}
use Rattle.api_types.specs.Outcome.{Moved, Outcome}
use Rattle.api_types.specs.Printed.{NoRow, OneRow, Reply}
use Rattle.api_types.specs.Refusing.{needing, not_found, unless, when}
use Rattle.api_types.specs.Registration.{Drawing, draw_of, drawn_id}
use Rattle.api_types.specs.RowLists.{RowLists}
use Rattle.api_types.specs.declared.call.Call.{Call}
use Rattle.api_types.specs.declared.call.Call.TheVariants.{List as ListCall, Show, Create, Update, Delete, AddInterface, RemoveInterface}
use Rattle.api_types.specs.declared.call.Caller.{Caller}
use Rattle.api_types.specs.declared.call.IdText.{IdText}
use Rattle.api_types.specs.declared.form.Form.{Form}
use Rattle.api_types.specs.declared.form.Form.TheVariants.{Network as NetworkOf, Subnet as SubnetOf, Port as PortOf, Group as GroupOf, Rule as RuleOf, Router as RouterOf, Floating as FloatingOf, Policy as PolicyOf}
use Rattle.api_types.specs.declared.form.NetworkForm.{NetworkForm}
use Rattle.api_types.specs.declared.form.PolicyForm.{PolicyForm}
use Rattle.api_types.specs.declared.form.PortForm.{PortForm}
use Rattle.api_types.specs.declared.kind.Kind.{Kind}
use Rattle.api_types.specs.declared.kind.Kind.TheVariants.{Project, Network, Subnet, Port, Group, Rule, Router, Floating, Policy}
use Rattle.api_types.specs.declared.network.NetworkRow.{NetworkRow}
use Rattle.api_types.specs.declared.network.Segment.{Segment}
use Rattle.api_types.specs.declared.policy.Action.TheVariants.{External, Shared}
use Rattle.api_types.specs.declared.policy.PolicyRow.{PolicyRow}
use Rattle.api_types.specs.declared.port.Fixed.{Fixed}
use Rattle.api_types.specs.declared.refusal.Refusal.{Refusal}
use Rattle.api_types.specs.declared.refusal.Refusal.TheVariants.{CountersSpent, Invalid, NoNetwork, PoolsSpent}
use Rattle.net_settings.specs.Settings.{SettingsParts}
use Rattle.api_ml2.specs.Segments.{asked_segment, chosen_segment}
use Rattle.api_ipam.specs.MacChoice.{mac_for}
use Rattle.api_policy.specs.Floatings.{floating_members}
use Rattle.api_policy.specs.Groups.{group_members, rule_members}
use Rattle.api_policy.specs.Networks.{network_members}
use Rattle.api_policy.specs.Permits.{admin_only, owner_only}
use Rattle.api_policy.specs.Policies.{policy_members}
use Rattle.api_policy.specs.Ports.{port_members}
use Rattle.api_policy.specs.Routers.{router_members}
use Rattle.api_policy.specs.Seen.{network_seen, policy_seen}
use Rattle.api_policy.specs.Subnets.{subnet_members}
use Rattle.api_policy.specs.Uses.{network_in_use, policy_in_use}
use Rattle.call_parts.specs.BodyNames.{text_of}
use Rattle.call_parts.specs.Edits.{Drop, accepted}
use Rattle.api_types.specs.WithRows.{gone_from, put_in}
use Rattle.call_parts.specs.State.{State, drawing_at, is_last}
use Rattle.plan_networks.specs.NetworkCalls as networks
use Rattle.plan_policies.specs.PolicyCalls as policies
use Rattle.plan_ports.specs.PortCalls as ports
use Rattle.api_machine.specs.WholeStep.{api_step, row_shown}
use Rattle.api_machine.proofs.CallsKept.{listed_nothing, refused_nothing, told_row}
use Rattle.kept_laws.proofs.EditedRows.{none_refused}
use Rattle.plan_floatings.proofs.RoomOfFloatings.{floating_created_room, floating_deleted_room, floating_updated_room}
use Rattle.plan_routers.proofs.RoomOfRouters.{interface_added_room, interface_removed_room, router_created_room, router_deleted_room, router_updated_room}
use Rattle.plan_ports.proofs.RoomOfPorts.{port_created_room, port_deleted_room, port_updated_room}
use Rattle.plan_subnets.proofs.RoomOfSubnets.{subnet_created_room, subnet_deleted_room, subnet_updated_room}
use Rattle.plan_groups.proofs.RoomOfGroups.{group_created_room, group_deleted_room, group_updated_room, rule_created_room, rule_deleted_room}
use Rattle.kept_laws.proofs.OutcomeLemmas.{if_some, needing_moved, not_when, unless_moved}
use Rattle.api_policy.specs.Reserved.{policy_for_admin}

module _ (settings : SettingsParts) (state : State) (caller : Caller) (rows : RowLists) (reply : Reply) where
  -- ids are drawn where there is room
  by_drawing : (name : List ℕ) (many : ℕ) (d : Drawing) → drawing_at state name many ≡ Some d → is_last state ≡ false
  by_drawing name many d at = (if_some (is_last state) (draw_of state.rows name many) d at).0

  network_created_room : (form : NetworkForm) → networks.network_created settings state caller form ≡ Moved rows reply → is_last state ≡ false
  network_created_room form h =
      let owner : List ℕ = owner_of caller form.project_id form.tenant_id in
      let many : ℕ = 1 + networks.openings_count form in
      let add : Segment → Drawing → Outcome = λ segment d. networks.network_added caller d form (networks.new_network owner form (drawn_id d 0) segment) in
      let draw : Segment → Outcome = λ segment. needing CountersSpent (drawing_at state owner many) (add segment) in
      let choose : Outcome = needing NoNetwork (chosen_segment settings state.rows.networks (asked_segment form)) draw in
      let passed = unless_moved (networks.creation_refusal settings state.rows caller form owner) choose rows reply h in
      let chosen = needing_moved NoNetwork (chosen_segment settings state.rows.networks (asked_segment form)) draw rows reply passed.1 in
      let drawing = needing_moved CountersSpent (drawing_at state owner many) (add chosen.0) rows reply chosen.2 in
      by_drawing owner many drawing.0 drawing.1

  network_updated_room : (name : IdText) (form : NetworkForm) → networks.network_updated state caller name form ≡ Moved rows reply → is_last state ≡ false
  network_updated_room name form h =
      let found = needing_moved (not_found Network name.text) (network_seen state.rows caller name.id) (networks.network_changed state caller form) rows reply h in
      let n : NetworkRow = found.0 in
      let many : ℕ = networks.opens state.rows n Shared form.shared + networks.opens state.rows n External form.router_external in
      let set : Drawing → Outcome = λ d. accepted d.rows (networks.network_edits state.rows form n d) (λ after. OneRow (networks.network_shown after caller (networks.changed_network form n) [])) in
      let passed = unless_moved (networks.update_refusal state caller form n) (needing CountersSpent (drawing_at state n.project many) set) rows reply found.2 in
      let drawing = needing_moved CountersSpent (drawing_at state n.project many) set rows reply passed.1 in
      by_drawing n.project many drawing.0 drawing.1

  network_deleted_room : (name : IdText) → networks.network_deleted state caller name ≡ Moved rows reply → is_last state ≡ false
  network_deleted_room name h =
      let gone : NetworkRow → Outcome = λ n. accepted state.rows (networks.network_gone state.rows n.id) (λ after. NoRow) in
      let rest : NetworkRow → Outcome = λ n. unless (networks.deletion_refusal state caller n) (gone n) in
      let found = needing_moved (not_found Network name.text) (network_seen state.rows caller name.id) rest rows reply h in
      let n : NetworkRow = found.0 in
      let passed = unless_moved (networks.deletion_refusal state caller n) (gone n) rows reply found.2 in
      let last : Option Refusal = when (is_last state) CountersSpent in
      not_when (is_last state) CountersSpent (none_refused (owner_only caller n.project ∷ network_in_use state.rows caller n.id ∷ last ∷ []) passed.0 2 last refl)

  policy_created_room : (form : PolicyForm) → policies.policy_created settings state caller form ≡ Moved rows reply → is_last state ≡ false
  policy_created_room form h =
      let owner : List ℕ = owner_of caller form.project_id form.tenant_id in
      let seen : Option NetworkRow = network_seen state.rows caller (value_of form.object_id) in
      let add : NetworkRow → Drawing → Outcome = λ n d. policies.policy_added caller d.rows (policies.new_policy form owner n.id (drawn_id d 0)) in
      let draw : NetworkRow → Outcome = λ n. needing CountersSpent (drawing_at state owner 1) (add n) in
      let rest : NetworkRow → Outcome = λ n. unless (policies.creation_refusal settings state.rows caller form owner n) (draw n) in
      let first = unless_moved (when (are_unlike form.project_id form.tenant_id) (Invalid (codes "tenant_id"))) (policies.policy_made settings state caller form owner) rows reply h in
      let found = needing_moved (not_found Network (text_of (value_of form.object_id))) seen rest rows reply first.1 in
      let n : NetworkRow = found.0 in
      let passed = unless_moved (policies.creation_refusal settings state.rows caller form owner n) (draw n) rows reply found.2 in
      let drawing = needing_moved CountersSpent (drawing_at state owner 1) (add n) rows reply passed.1 in
      by_drawing owner 1 drawing.0 drawing.1

  policy_updated_room : (name : IdText) (form : PolicyForm) → policies.policy_updated state caller name form ≡ Moved rows reply → is_last state ≡ false
  policy_updated_room name form h =
      let set : PolicyRow → Outcome = λ l. policies.policy_replaced caller state.rows (policies.changed_policy form l) in
      let rest : PolicyRow → Outcome = λ l. unless (policies.update_refusal state caller form l (policies.changed_policy form l)) (set l) in
      let found = needing_moved (not_found Policy name.text) (policy_seen state.rows caller name.id) rest rows reply h in
      let l : PolicyRow = found.0 in
      let new : PolicyRow = policies.changed_policy form l in
      let passed = unless_moved (policies.update_refusal state caller form l new) (set l) rows reply found.2 in
      let used : Option Refusal = policy_in_use state.rows caller (put_in (λ q. q.id) new state.rows.policies) l in
      let equal : Option Refusal = option_map policies.policy_exists (policies.equal_policy (gone_from (λ q. q.id) l.id state.rows.policies) new) in
      let last : Option Refusal = when (is_last state) CountersSpent in
      not_when (is_last state) CountersSpent (none_refused (admin_only caller (policy_for_admin caller form) ∷ owner_only caller l.project ∷ used ∷ equal ∷ last ∷ []) passed.0 4 last refl)

  policy_deleted_room : (name : IdText) → policies.policy_deleted state caller name ≡ Moved rows reply → is_last state ≡ false
  policy_deleted_room name h =
      let gone : PolicyRow → Outcome = λ l. accepted state.rows (Drop Policy l.id ∷ []) (λ after. NoRow) in
      let rest : PolicyRow → Outcome = λ l. unless (policies.deletion_refusal state caller l) (gone l) in
      let found = needing_moved (not_found Policy name.text) (policy_seen state.rows caller name.id) rest rows reply h in
      let l : PolicyRow = found.0 in
      let passed = unless_moved (policies.deletion_refusal state caller l) (gone l) rows reply found.2 in
      let used : Option Refusal = policy_in_use state.rows caller (gone_from (λ q. q.id) l.id state.rows.policies) l in
      let last : Option Refusal = when (is_last state) CountersSpent in
      not_when (is_last state) CountersSpent (none_refused (owner_only caller l.project ∷ used ∷ last ∷ []) passed.0 2 last refl)

  shown_room : (kind : Kind) (name : IdText) (fields : List (List ℕ)) → row_shown state caller kind name fields ≡ Moved rows reply → is_last state ≡ false
  shown_room Project name fields h = refused_nothing _ rows reply h
  shown_room Network name fields h = told_row Network (λ r. r.id) (network_members state.rows caller) caller name fields _ rows reply h
  shown_room Subnet name fields h = told_row Subnet (λ r. r.id) subnet_members caller name fields _ rows reply h
  shown_room Port name fields h = told_row Port (λ r. r.id) (port_members state.rows) caller name fields _ rows reply h
  shown_room Group name fields h = told_row Group (λ r. r.id) (group_members state.rows) caller name fields _ rows reply h
  shown_room Rule name fields h = told_row Rule (λ r. r.id) rule_members caller name fields _ rows reply h
  shown_room Router name fields h = told_row Router (λ r. r.id) (router_members state.rows) caller name fields _ rows reply h
  shown_room Floating name fields h = told_row Floating (λ r. r.id) floating_members caller name fields _ rows reply h
  shown_room Policy name fields h = told_row Policy (λ r. r.id) policy_members caller name fields _ rows reply h

  created_room : (form : Form) → api_step settings state caller (Create form) ≡ Moved rows reply → is_last state ≡ false
  created_room (NetworkOf form) h = network_created_room form h
  created_room (PortOf form) h = port_created_room settings state caller rows reply form h
  created_room (PolicyOf form) h = policy_created_room form h
  created_room (SubnetOf form) h = subnet_created_room settings state caller rows reply form h
  created_room (GroupOf form) h = group_created_room settings state caller rows reply form h
  created_room (RuleOf form) h = rule_created_room settings state caller rows reply form h
  created_room (RouterOf form) h = router_created_room settings state caller rows reply form h
  created_room (FloatingOf form) h = floating_created_room settings state caller rows reply form h

  updated_room : (name : IdText) (form : Form) → api_step settings state caller (Update name form) ≡ Moved rows reply → is_last state ≡ false
  updated_room name (NetworkOf form) h = network_updated_room name form h
  updated_room name (PolicyOf form) h = policy_updated_room name form h
  updated_room name (PortOf form) h = port_updated_room settings state caller rows reply name form h
  updated_room name (SubnetOf form) h = subnet_updated_room settings state caller rows reply name form h
  updated_room name (GroupOf form) h = group_updated_room settings state caller rows reply name form h
  updated_room name (RuleOf form) h = refused_nothing _ rows reply h
  updated_room name (RouterOf form) h = router_updated_room settings state caller rows reply name form h
  updated_room name (FloatingOf form) h = floating_updated_room settings state caller rows reply name form h

  deleted_room : (kind : Kind) (name : IdText) → api_step settings state caller (Delete kind name) ≡ Moved rows reply → is_last state ≡ false
  deleted_room Network name h = network_deleted_room name h
  deleted_room Policy name h = policy_deleted_room name h
  deleted_room Project name h = refused_nothing _ rows reply h
  deleted_room Subnet name h = subnet_deleted_room settings state caller rows reply name h
  deleted_room Port name h = port_deleted_room settings state caller rows reply name h
  deleted_room Group name h = group_deleted_room settings state caller rows reply name h
  deleted_room Rule name h = rule_deleted_room settings state caller rows reply name h
  deleted_room Router name h = router_deleted_room settings state caller rows reply name h
  deleted_room Floating name h = floating_deleted_room settings state caller rows reply name h

  pub call_room : (call : Call) → api_step settings state caller call ≡ Moved rows reply → is_last state ≡ false
  call_room (ListCall kind query) h = listed_nothing _ _ rows reply h
  call_room (Show kind name fields) h = shown_room kind name fields h
  call_room (Create form) h = created_room form h
  call_room (Update name form) h = updated_room name form h
  call_room (Delete kind name) h = deleted_room kind name h
  call_room (AddInterface router by) h = interface_added_room settings state caller rows reply router by h
  call_room (RemoveInterface router by) h = interface_removed_room settings state caller rows reply router by h
