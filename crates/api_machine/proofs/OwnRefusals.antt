-- The machine of itself never refuses because a store failed.
use Rattle.std.proofs.Common.{inl, inr, ◌≡◌, ◌∙◌, ℕ, List, Bool, false, if◌then◌else◌, true, true≢false, ap, arith, refl, sym}
use Rattle.api_types.specs.Outcome.{Outcome, Refused}
use Rattle.api_types.specs.declared.call.Call.{Call}
use Rattle.api_types.specs.declared.call.Call.TheVariants.{List as ListCall, Show, Create, Update, Delete, AddInterface, RemoveInterface}
use Rattle.api_types.specs.declared.call.Caller.{Caller}
use Rattle.api_types.specs.declared.call.IdText.{IdText}
use Rattle.api_types.specs.declared.call.Query.{Query}
use Rattle.api_types.specs.declared.form.Form.{Form}
use Rattle.api_types.specs.declared.form.Form.TheVariants.{Network as NetworkOf, Subnet as SubnetOf, Port as PortOf, Group as GroupOf, Rule as RuleOf, Router as RouterOf, Floating as FloatingOf, Policy as PolicyOf}
use Rattle.api_types.specs.declared.kind.Kind.{Kind}
use Rattle.api_types.specs.declared.kind.Kind.TheVariants.{Project, Network, Subnet, Port, Group, Rule, Router, Floating, Policy}
use Rattle.std.specs.Prelude.{◌⊎◌}
use Rattle.api_types.specs.declared.refusal.Refusal.{Refusal}
use Rattle.api_types.specs.declared.refusal.Refusal.TheVariants.{OutOfMemory, StoreFault}
use Rattle.net_settings.specs.Settings.{SettingsParts}
use Rattle.call_parts.specs.State.{State}
use Rattle.api_machine.specs.WholeStep.{api_step, row_created, row_deleted, row_shown, row_updated}
use Rattle.api_machine.specs.Reads.{rows_listed}
use Rattle.kept_laws.proofs.Own.{is_own_outcome}
use Rattle.plan_floatings.proofs.OwnFloatings.{own_floating_created, own_floating_deleted, own_floating_updated}
use Rattle.plan_groups.proofs.OwnGroups.{own_group_created, own_group_deleted, own_group_updated, own_rule_created, own_rule_deleted}
use Rattle.plan_routers.proofs.OwnInterfaces.{own_interface_added, own_interface_removed}
use Rattle.plan_networks.proofs.OwnNetworks.{own_network_created, own_network_deleted, own_network_updated}
use Rattle.plan_policies.proofs.OwnPolicies.{own_policy_created, own_policy_deleted, own_policy_updated}
use Rattle.plan_ports.proofs.OwnPorts.{own_port_created, own_port_deleted, own_port_updated}
use Rattle.plan_routers.proofs.OwnRouters.{own_router_created, own_router_deleted, own_router_updated}
use Rattle.plan_subnets.proofs.OwnSubnets.{own_subnet_created, own_subnet_deleted, own_subnet_updated}

module _ (settings : SettingsParts) (state : State) (caller : Caller) where
  own_created : (form : Form) → is_own_outcome (row_created settings state caller form) ≡ true
  own_created (NetworkOf form) = own_network_created settings state caller form
  own_created (SubnetOf form) = own_subnet_created settings state caller form
  own_created (PortOf form) = own_port_created settings state caller form
  own_created (GroupOf form) = own_group_created settings state caller form
  own_created (RuleOf form) = own_rule_created settings state caller form
  own_created (RouterOf form) = own_router_created settings state caller form
  own_created (FloatingOf form) = own_floating_created settings state caller form
  own_created (PolicyOf form) = own_policy_created settings state caller form

  own_updated : (name : IdText) (form : Form) → is_own_outcome (row_updated settings state caller name form) ≡ true
  own_updated name (NetworkOf form) = own_network_updated state caller name form
  own_updated name (SubnetOf form) = own_subnet_updated settings state caller name form
  own_updated name (PortOf form) = own_port_updated settings state caller name form
  own_updated name (GroupOf form) = own_group_updated state caller name form
  own_updated name (RuleOf form) = refl
  own_updated name (RouterOf form) = own_router_updated settings state caller name form
  own_updated name (FloatingOf form) = own_floating_updated state caller name form
  own_updated name (PolicyOf form) = own_policy_updated state caller name form

  own_deleted : (kind : Kind) (name : IdText) → is_own_outcome (row_deleted state caller kind name) ≡ true
  own_deleted Project name = refl
  own_deleted Network name = own_network_deleted state caller name
  own_deleted Subnet name = own_subnet_deleted state caller name
  own_deleted Port name = own_port_deleted state caller name
  own_deleted Group name = own_group_deleted state caller name
  own_deleted Rule name = own_rule_deleted state caller name
  own_deleted Router name = own_router_deleted state caller name
  own_deleted Floating name = own_floating_deleted state caller name
  own_deleted Policy name = own_policy_deleted state caller name

  own_shown : (kind : Kind) (name : IdText) (fields : List (List ℕ)) → is_own_outcome (row_shown state caller kind name fields) ≡ true
  own_shown Project name fields = refl
  own_shown Network name fields = grind arith
  own_shown Subnet name fields = grind arith
  own_shown Port name fields = grind arith
  own_shown Group name fields = grind arith
  own_shown Rule name fields = grind arith
  own_shown Router name fields = grind arith
  own_shown Floating name fields = grind arith
  own_shown Policy name fields = grind arith

  own_listed : (kind : Kind) (query : Query) → is_own_outcome (rows_listed state.rows caller kind query) ≡ true
  own_listed kind query = grind arith

  pub own_step : (call : Call) → is_own_outcome (api_step settings state caller call) ≡ true
  own_step (ListCall kind query) = own_listed kind query
  own_step (Show kind name fields) = own_shown kind name fields
  own_step (Create form) = own_created form
  own_step (Update name form) = own_updated name form
  own_step (Delete kind name) = own_deleted kind name
  own_step (AddInterface router by) = own_interface_added settings state caller router by
  own_step (RemoveInterface router by) = own_interface_removed state caller router by

  no_fault : (call : Call) → api_step settings state caller call ≡ Refused StoreFault → ⊥
  no_fault call h = true≢false (sym (own_step call) ∙ ap is_own_outcome h)

-- so what it refuses with, or for want of memory, is never that
pub no_plan_fault : (settings : SettingsParts) (state : State) (caller : Caller) (call : Call) (refusal : Refusal) (T : Type 0)
    → (refusal ≡ OutOfMemory) ⊎ (api_step settings state caller call ≡ Refused refusal) → refusal ≡ StoreFault → T
no_plan_fault settings state caller call refusal T (inl memory) h = absurd cc
no_plan_fault settings state caller call refusal T (inr refused) h = absurd (no_fault settings state caller call (refused ∙ ap Refused h))
