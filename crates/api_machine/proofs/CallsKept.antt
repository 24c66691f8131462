-- Each accepted call keeps rows consistent, by its kind.
use Rattle.std.proofs.Common.{List, Option, None, Some, ℕ, ◌≡◌}
use Rattle.plan_floatings.proofs.FloatingMade.{floating_created_kept}
use Rattle.plan_floatings.proofs.FloatingsKept.{floating_deleted_kept, floating_updated_kept}
use Rattle.plan_routers.proofs.InterfacesKept.{interface_added_kept}
use Rattle.plan_networks.proofs.NetworksKept.{network_created_kept, network_deleted_kept, network_updated_kept}
use Rattle.plan_policies.proofs.PolicyKept.{created_kept as policy_created_kept, deleted_kept as policy_deleted_kept, updated_kept as policy_updated_kept}
use Rattle.plan_ports.proofs.PortCreated.{created_kept as port_created_kept}
use Rattle.plan_ports.proofs.PortDeleted.{deleted_kept as port_deleted_kept}
use Rattle.plan_ports.proofs.PortUpdated.{updated_kept as port_updated_kept}
use Rattle.plan_routers.proofs.RouterLeaves.{interface_removed_kept, router_deleted_kept}
use Rattle.plan_routers.proofs.RoutersKept.{router_created_kept, router_updated_kept}
use Rattle.plan_groups.proofs.RulesKept.{group_created_kept, group_deleted_kept, group_updated_kept, rule_created_kept, rule_deleted_kept}
use Rattle.plan_subnets.proofs.SubnetCreated.{created_kept as subnet_created_kept}
use Rattle.plan_subnets.proofs.SubnetDeleted.{deleted_kept as subnet_deleted_kept}
use Rattle.plan_subnets.proofs.SubnetUpdated.{updated_kept as subnet_updated_kept}
use Rattle.kept_laws.proofs.TypedKept.{HaveKept}
use Rattle.call_parts.specs.InForm.{IsInForm}
use Rattle.kept_laws.specs.Kept.{KeepsRows}
use Rattle.call_parts.specs.Typed.{AreTyped}
use Rattle.api_machine.specs.WholeStep.{api_step, row_shown}
use Rattle.kept_laws.proofs.OutcomeLemmas.{needing_moved}
use Rattle.api_types.specs.Refusing.{at_name, not_found, unless}
use Rattle.api_policy.specs.Floatings.{floating_members}
use Rattle.api_policy.specs.Groups.{group_members, rule_members}
use Rattle.api_policy.specs.Networks.{network_members}
use Rattle.api_policy.specs.Policies.{policy_members}
use Rattle.api_policy.specs.Ports.{port_members}
use Rattle.api_policy.specs.Routers.{router_members}
use Rattle.api_policy.specs.Subnets.{subnet_members}
use Rattle.api_policy.specs.Shown.{shown_as}
use Rattle.api_machine.specs.Reads.{row_told}
use Rattle.call_parts.specs.State.{State}
use Rattle.api_types.specs.Consistent.{IsConsistent}
use Rattle.api_types.specs.Ident.{Ident}
use Rattle.api_types.specs.Outcome.{Moved, Refused, Told}
use Rattle.api_types.specs.Printed.{NamedTree, OneRow, Reply}
use Rattle.api_types.specs.RowLists.{RowLists}
use Rattle.api_types.specs.declared.call.Call.{Call}
use Rattle.api_types.specs.declared.call.Call.TheVariants.{List as ListCall, Show, Create, Update, Delete, AddInterface, RemoveInterface}
use Rattle.api_types.specs.declared.call.Caller.{Caller}
use Rattle.api_types.specs.declared.call.IdText.{IdText}
use Rattle.api_types.specs.declared.form.Form.{Form}
use Rattle.api_types.specs.declared.form.Form.TheVariants.{Network as NetworkOf, Subnet as SubnetOf, Port as PortOf, Group as GroupOf, Rule as RuleOf, Router as RouterOf, Floating as FloatingOf, Policy as PolicyOf}
use Rattle.api_types.specs.declared.kind.Kind.{Kind}
use Rattle.api_types.specs.declared.kind.Kind.TheVariants.{Project, Network, Subnet, Port, Group, Rule, Router, Floating, Policy}
use Rattle.api_types.specs.declared.refusal.Refusal.{Refusal}
use Rattle.net_settings.specs.Rules.{MeetsRules}
use Rattle.net_settings.specs.Settings.{SettingsParts}

-- reads move nothing, and nor do refusals

pub told_nothing : {P : Type 0} (reply : Reply) (rows : RowLists) (other : Reply) → Told reply ≡ Moved rows other → P
told_nothing reply rows other h = cc

pub refused_nothing : {P : Type 0} (refusal : Refusal) (rows : RowLists) (reply : Reply) → Refused refusal ≡ Moved rows reply → P
refused_nothing refusal rows reply h = cc

pub told_row : {P : Type 0} {R : Type 0} (kind : Kind) (id_of : R → Ident) (members : R → List NamedTree) (caller : Caller) (name : IdText) (fields : List (List ℕ)) (seen : List R) (rows : RowLists) (reply : Reply)
    → row_told kind id_of members caller name fields seen ≡ Moved rows reply → P
told_row kind id_of members caller name fields seen rows reply h =
    let found = needing_moved (not_found kind name.text) (at_name id_of name.id seen) (λ r. Told (OneRow (shown_as kind caller.admin fields (members r)))) rows reply h in
    told_nothing (OneRow (shown_as kind caller.admin fields (members found.0))) rows reply found.2

pub listed_nothing : {P : Type 0} (o : Option Refusal) (reply : Reply) (rows : RowLists) (other : Reply) → unless o (Told reply) ≡ Moved rows other → P
listed_nothing None reply rows other h = cc
listed_nothing (Some refusal) reply rows other h = cc

module _ (settings : SettingsParts) (state : State) (caller : Caller) (rows : RowLists) (reply : Reply) (c : IsConsistent state.rows) (typed : AreTyped state.rows) where
  shown_kept : (kind : Kind) (name : IdText) (fields : List (List ℕ)) → row_shown state caller kind name fields ≡ Moved rows reply → HaveKept settings state.rows rows
  shown_kept Project name fields h = refused_nothing _ rows reply h
  shown_kept Network name fields h = told_row Network (λ r. r.id) (network_members state.rows caller) caller name fields _ rows reply h
  shown_kept Subnet name fields h = told_row Subnet (λ r. r.id) subnet_members caller name fields _ rows reply h
  shown_kept Port name fields h = told_row Port (λ r. r.id) (port_members state.rows) caller name fields _ rows reply h
  shown_kept Group name fields h = told_row Group (λ r. r.id) (group_members state.rows) caller name fields _ rows reply h
  shown_kept Rule name fields h = told_row Rule (λ r. r.id) rule_members caller name fields _ rows reply h
  shown_kept Router name fields h = told_row Router (λ r. r.id) (router_members state.rows) caller name fields _ rows reply h
  shown_kept Floating name fields h = told_row Floating (λ r. r.id) floating_members caller name fields _ rows reply h
  shown_kept Policy name fields h = told_row Policy (λ r. r.id) policy_members caller name fields _ rows reply h

  created_kept : MeetsRules settings → (form : Form) → IsInForm caller (Create form) → api_step settings state caller (Create form) ≡ Moved rows reply → HaveKept settings state.rows rows
  created_kept rules (NetworkOf form) in_form h = network_created_kept settings state caller form rows reply rules c in_form.formed h
  created_kept rules (SubnetOf form) in_form h = subnet_created_kept settings state caller form rows reply c typed in_form.typed in_form.formed h
  created_kept rules (PortOf form) in_form h = port_created_kept settings state caller form rows reply c typed in_form.typed in_form.formed h
  created_kept rules (GroupOf form) in_form h = group_created_kept settings state caller form rows reply c in_form.formed h
  created_kept rules (RuleOf form) in_form h = rule_created_kept settings state caller form rows reply c h
  created_kept rules (RouterOf form) in_form h = router_created_kept settings state caller form rows reply c typed in_form.formed h
  created_kept rules (FloatingOf form) in_form h = floating_created_kept settings state caller form rows reply c typed in_form.formed h
  created_kept rules (PolicyOf form) in_form h = policy_created_kept settings state caller form rows reply c in_form.formed h

  updated_kept : (name : IdText) (form : Form) → IsInForm caller (Update name form) → api_step settings state caller (Update name form) ≡ Moved rows reply → HaveKept settings state.rows rows
  updated_kept name (NetworkOf form) in_form h = network_updated_kept settings state caller name form rows reply c h
  updated_kept name (SubnetOf form) in_form h = subnet_updated_kept settings state caller name form rows reply c typed in_form.formed h
  updated_kept name (PortOf form) in_form h = port_updated_kept settings state caller name form rows reply c typed in_form.typed in_form.formed h
  updated_kept name (GroupOf form) in_form h = group_updated_kept settings state caller name form rows reply c h
  updated_kept name (RuleOf form) in_form h = refused_nothing _ rows reply h
  updated_kept name (RouterOf form) in_form h = router_updated_kept settings state caller name form rows reply c typed in_form.formed h
  updated_kept name (FloatingOf form) in_form h = floating_updated_kept settings state caller name form rows reply c h
  updated_kept name (PolicyOf form) in_form h = policy_updated_kept settings state caller name form rows reply c h

  deleted_kept : (kind : Kind) (name : IdText) → api_step settings state caller (Delete kind name) ≡ Moved rows reply → HaveKept settings state.rows rows
  deleted_kept Project name h = refused_nothing _ rows reply h
  deleted_kept Network name h = network_deleted_kept settings state caller name rows reply c h
  deleted_kept Subnet name h = subnet_deleted_kept settings state caller name rows reply c h
  deleted_kept Port name h = port_deleted_kept settings state caller name rows reply c h
  deleted_kept Group name h = group_deleted_kept settings state caller name rows reply c h
  deleted_kept Rule name h = rule_deleted_kept settings state caller name rows reply c h
  deleted_kept Router name h = router_deleted_kept settings state caller name rows reply c h
  deleted_kept Floating name h = floating_deleted_kept settings state caller name rows reply c h
  deleted_kept Policy name h = policy_deleted_kept settings state caller name rows reply c h

  moved_kept : MeetsRules settings → (call : Call) → IsInForm caller call → api_step settings state caller call ≡ Moved rows reply → HaveKept settings state.rows rows
  moved_kept rules (ListCall kind query) in_form h = listed_nothing _ _ rows reply h
  moved_kept rules (Show kind name fields) in_form h = shown_kept kind name fields h
  moved_kept rules (Create form) in_form h = created_kept rules form in_form h
  moved_kept rules (Update name form) in_form h = updated_kept name form in_form h
  moved_kept rules (Delete kind name) in_form h = deleted_kept kind name h
  moved_kept rules (AddInterface router by) in_form h = interface_added_kept settings state caller router by rows reply c h
  moved_kept rules (RemoveInterface router by) in_form h = interface_removed_kept settings state caller router by rows reply c h

pub call_kept : (settings : SettingsParts) → MeetsRules settings → KeepsRows settings (api_step settings)
call_kept settings rules call state caller rows reply c typed in_form h =
    let kept = moved_kept settings state caller rows reply c typed rules call in_form h in
    record { consistent = kept.consistent; typed = kept.typed typed; carried = kept.carried }
