-- A tenant's accepted calls leave what others own alone, by their kind.
use Rattle.api_machine.proofs.CallsKept.{listed_nothing, refused_nothing, told_row}
use Rattle.api_machine.specs.WholeStep.{api_step, row_created, row_deleted, row_shown, row_updated}
use Rattle.api_policy.specs.Floatings.{floating_members}
use Rattle.api_policy.specs.Groups.{group_members, rule_members}
use Rattle.api_policy.specs.Networks.{network_members}
use Rattle.api_policy.specs.Policies.{policy_members}
use Rattle.api_policy.specs.Ports.{port_members}
use Rattle.api_policy.specs.Routers.{router_members}
use Rattle.api_policy.specs.Subnets.{subnet_members}
use Rattle.api_types.specs.Consistent.{IsConsistent}
use Rattle.api_types.specs.Lists.{is_empty}
use Rattle.api_types.specs.Outcome.{Moved}
use Rattle.api_types.specs.Printed.{Reply}
use Rattle.api_types.specs.RowLists.{RowLists}
use Rattle.api_types.specs.declared.call.Call.{Call}
use Rattle.api_types.specs.declared.call.Call.TheVariants.{AddInterface, Create, Delete, List as ListCall, RemoveInterface, Show, Update}
use Rattle.api_types.specs.declared.call.Caller.{Caller}
use Rattle.api_types.specs.declared.call.IdText.{IdText}
use Rattle.api_types.specs.declared.form.Form.{Form}
use Rattle.api_types.specs.declared.form.Form.TheVariants.{Floating as FloatingOf, Group as GroupOf, Network as NetworkOf, Policy as PolicyOf, Port as PortOf, Router as RouterOf, Rule as RuleOf, Subnet as SubnetOf}
use Rattle.api_types.specs.declared.kind.Kind.{Kind}
use Rattle.api_types.specs.declared.kind.Kind.TheVariants.{Floating, Group, Network, Policy, Port, Project, Router, Rule, Subnet}
use Rattle.call_parts.specs.State.{State}
use Rattle.net_settings.specs.Settings.{SettingsParts}
use Rattle.plan_floatings.proofs.FloatingsSpare.{floating_created_spares, floating_deleted_spares, floating_updated_spares}
use Rattle.plan_groups.proofs.GroupsSpare.{group_created_spares, group_deleted_spares, group_updated_spares, rule_created_spares, rule_deleted_spares}
use Rattle.plan_routers.proofs.InterfacesSpare.{interface_added_spares, interface_removed_stays}
use Rattle.plan_networks.proofs.NetworkGone.{network_deleted_stays}
use Rattle.plan_networks.proofs.NetworksSpare.{network_created_spares, network_updated_spares}
use Rattle.plan_policies.proofs.PoliciesSpare.{policy_created_spares, policy_deleted_spares, policy_updated_spares}
use Rattle.plan_ports.proofs.PortsSpare.{port_created_spares, port_deleted_stays, port_updated_spares}
use Rattle.plan_routers.proofs.RoutersSpare.{router_created_spares, router_deleted_spares, router_updated_spares}
use Rattle.apart_laws.proofs.Steps.{Spares, spares_all}
use Rattle.plan_subnets.proofs.SubnetsSpare.{subnet_created_spares, subnet_deleted_spares, subnet_updated_spares}
use Rattle.apart_laws.specs.Others.{OthersStay, SparesOthers}
use Rattle.std.proofs.Common.{List, false, not, true, ℕ, ◌≡◌}

module _ (settings : SettingsParts) (state : State) (caller : Caller) (rows : RowLists) (reply : Reply) (c : IsConsistent state.rows) (tenant : caller.admin ≡ false) (named : not (is_empty caller.project) ≡ true) where
  abbrev Stay : Type 0
  Stay = OthersStay caller.project state.rows rows

  as_before : Spares caller.project state.rows rows → Stay
  as_before same = spares_all caller.project state.rows rows same

  shown : (kind : Kind) (name : IdText) (fields : List (List ℕ)) → row_shown state caller kind name fields ≡ Moved rows reply → Stay
  shown Project name fields h = refused_nothing _ rows reply h
  shown Network name fields h = told_row Network (λ r. r.id) (network_members state.rows caller) caller name fields _ rows reply h
  shown Subnet name fields h = told_row Subnet (λ r. r.id) subnet_members caller name fields _ rows reply h
  shown Port name fields h = told_row Port (λ r. r.id) (port_members state.rows) caller name fields _ rows reply h
  shown Group name fields h = told_row Group (λ r. r.id) (group_members state.rows) caller name fields _ rows reply h
  shown Rule name fields h = told_row Rule (λ r. r.id) rule_members caller name fields _ rows reply h
  shown Router name fields h = told_row Router (λ r. r.id) (router_members state.rows) caller name fields _ rows reply h
  shown Floating name fields h = told_row Floating (λ r. r.id) floating_members caller name fields _ rows reply h
  shown Policy name fields h = told_row Policy (λ r. r.id) policy_members caller name fields _ rows reply h

  created : (form : Form) → row_created settings state caller form ≡ Moved rows reply → Stay
  created (NetworkOf form) h = as_before (network_created_spares settings state caller form rows reply tenant c h)
  created (SubnetOf form) h = as_before (subnet_created_spares settings state caller form rows reply tenant c h)
  created (PortOf form) h = as_before (port_created_spares settings state caller form rows reply tenant c h)
  created (GroupOf form) h = as_before (group_created_spares settings state caller form rows reply tenant c h)
  created (RuleOf form) h = as_before (rule_created_spares settings state caller form rows reply tenant c h)
  created (RouterOf form) h = as_before (router_created_spares settings state caller form rows reply named c tenant h)
  created (FloatingOf form) h = as_before (floating_created_spares settings state caller form rows reply tenant named c h)
  created (PolicyOf form) h = as_before (policy_created_spares settings state caller form rows reply tenant c h)

  updated : (name : IdText) (form : Form) → row_updated settings state caller name form ≡ Moved rows reply → Stay
  updated name (NetworkOf form) h = as_before (network_updated_spares state caller name form rows reply tenant c h)
  updated name (SubnetOf form) h = as_before (subnet_updated_spares settings state caller name form rows reply tenant c h)
  updated name (PortOf form) h = as_before (port_updated_spares settings state caller name form rows reply tenant c h)
  updated name (GroupOf form) h = as_before (group_updated_spares state caller name form rows reply tenant c h)
  updated name (RuleOf form) h = refused_nothing _ rows reply h
  updated name (RouterOf form) h = as_before (router_updated_spares settings state caller name form rows reply tenant named c h)
  updated name (FloatingOf form) h = as_before (floating_updated_spares state caller name form rows reply tenant c h)
  updated name (PolicyOf form) h = as_before (policy_updated_spares state caller name form rows reply tenant c h)

  deleted : (kind : Kind) (name : IdText) → row_deleted state caller kind name ≡ Moved rows reply → Stay
  deleted Project name h = refused_nothing _ rows reply h
  deleted Network name h = network_deleted_stays state caller name rows reply tenant c h
  deleted Subnet name h = as_before (subnet_deleted_spares state caller name rows reply tenant c h)
  deleted Port name h = port_deleted_stays state caller name rows reply tenant c h
  deleted Group name h = as_before (group_deleted_spares state caller name rows reply tenant c h)
  deleted Rule name h = as_before (rule_deleted_spares state caller name rows reply tenant c h)
  deleted Router name h = as_before (router_deleted_spares state caller name rows reply tenant c h)
  deleted Floating name h = as_before (floating_deleted_spares state caller name rows reply tenant c h)
  deleted Policy name h = as_before (policy_deleted_spares state caller name rows reply tenant c h)

  stays : (call : Call) → api_step settings state caller call ≡ Moved rows reply → Stay
  stays (ListCall kind query) h = listed_nothing _ _ rows reply h
  stays (Show kind name fields) h = shown kind name fields h
  stays (Create form) h = created form h
  stays (Update name form) h = updated name form h
  stays (Delete kind name) h = deleted kind name h
  stays (AddInterface router by) h = as_before (interface_added_spares settings state caller router by rows reply tenant c h)
  stays (RemoveInterface router by) h = interface_removed_stays state caller router by rows reply tenant c h

pub calls_spare : (settings : SettingsParts) (call : Call) → SparesOthers (λ state caller. api_step settings state caller call)
calls_spare settings call state caller rows reply c tenant named h = stays settings state caller rows reply c tenant named call h
