-- A tenant is told the same of each call wherever its footing is the same.
use Rattle.std.proofs.Common.{◌≡◌, true, false, not, refl}
use Rattle.api_machine.specs.WholeStep.{api_step, row_created, row_deleted, row_updated}
use Rattle.apart_laws.specs.Footing.{footing}
use Rattle.api_types.specs.Refusing.{answer_alone}
use Rattle.call_parts.specs.State.{State}
use Rattle.api_types.specs.Consistent.{IsConsistent}
use Rattle.api_types.specs.Lists.{is_empty}
use Rattle.api_types.specs.declared.call.Call.TheVariants.{List as ListCall, Show, Create, Update, Delete, AddInterface, RemoveInterface}
use Rattle.api_types.specs.declared.call.Call.{Call}
use Rattle.api_types.specs.declared.call.Caller.{Caller}
use Rattle.api_types.specs.declared.call.IdText.{IdText}
use Rattle.api_types.specs.declared.form.Form.TheVariants.{Network as NetworkOf, Subnet as SubnetOf, Port as PortOf, Group as GroupOf, Rule as RuleOf, Router as RouterOf, Floating as FloatingOf, Policy as PolicyOf}
use Rattle.api_types.specs.declared.form.Form.{Form}
use Rattle.api_types.specs.declared.kind.Kind.TheVariants.{Project, Network, Subnet, Port, Group, Rule, Router, Floating, Policy}
use Rattle.api_types.specs.declared.kind.Kind.{Kind}
use Rattle.net_settings.specs.Settings.{SettingsParts}
use Rattle.plan_floatings.proofs.FloatingCallsApart.{floating_created_apart, floating_deleted_apart, floating_updated_apart}
use Rattle.plan_groups.proofs.GroupsApart.{group_created_apart, group_deleted_apart, group_updated_apart, rule_created_apart, rule_deleted_apart}
use Rattle.plan_routers.proofs.InterfacesApart.{interface_added_apart, interface_removed_apart}
use Rattle.plan_networks.proofs.NetworkCallsApart.{network_created_apart, network_deleted_apart, network_updated_apart}
use Rattle.plan_policies.proofs.PoliciesApart.{policy_created_apart, policy_deleted_apart, policy_updated_apart}
use Rattle.plan_ports.proofs.PortCallsApart.{port_created_apart, port_deleted_apart, port_updated_apart}
use Rattle.api_machine.proofs.ReadsApart.{listed_apart, shown_apart}
use Rattle.plan_routers.proofs.RouterCallsApart.{router_created_apart, router_deleted_apart, router_updated_apart}
use Rattle.plan_subnets.proofs.SubnetsApart.{subnet_created_apart, subnet_deleted_apart, subnet_updated_apart}

module _ (settings : SettingsParts) (caller : Caller) (s t : State) (tenant : caller.admin ≡ false) (named : not (is_empty caller.project) ≡ true) (c : IsConsistent s.rows) (d : IsConsistent t.rows) (same : footing settings s caller ≡ footing settings t caller) where
  created_apart : (form : Form) → answer_alone (row_created settings s caller form) ≡ answer_alone (row_created settings t caller form)
  created_apart (NetworkOf form) = network_created_apart settings caller tenant named s t c d same form
  created_apart (SubnetOf form) = subnet_created_apart settings caller tenant s t c d same form
  created_apart (PortOf form) = port_created_apart settings caller tenant s t c d same named form
  created_apart (GroupOf form) = group_created_apart settings caller tenant s t same named c d form
  created_apart (RuleOf form) = rule_created_apart settings caller tenant s t same form
  created_apart (RouterOf form) = router_created_apart settings caller tenant named s t c d same form
  created_apart (FloatingOf form) = floating_created_apart settings caller tenant s t c d same form
  created_apart (PolicyOf form) = policy_created_apart settings caller tenant s t c d same form

  updated_apart : (name : IdText) (form : Form) → answer_alone (row_updated settings s caller name form) ≡ answer_alone (row_updated settings t caller name form)
  updated_apart name (NetworkOf form) = network_updated_apart settings caller tenant named s t c d same name form
  updated_apart name (SubnetOf form) = subnet_updated_apart settings caller tenant s t c d same name form
  updated_apart name (PortOf form) = port_updated_apart settings caller tenant s t c d same name form
  updated_apart name (GroupOf form) = group_updated_apart settings caller tenant s t same c d name form
  updated_apart name (RuleOf form) = refl
  updated_apart name (RouterOf form) = router_updated_apart settings caller tenant named s t c d same name form
  updated_apart name (FloatingOf form) = floating_updated_apart settings caller tenant s t c d same name form
  updated_apart name (PolicyOf form) = policy_updated_apart settings caller tenant s t c d same name form

  deleted_apart : (kind : Kind) (name : IdText) → answer_alone (row_deleted s caller kind name) ≡ answer_alone (row_deleted t caller kind name)
  deleted_apart Project name = refl
  deleted_apart Network name = network_deleted_apart settings caller tenant named s t c d same name
  deleted_apart Subnet name = subnet_deleted_apart settings caller tenant s t c d same name
  deleted_apart Port name = port_deleted_apart settings caller tenant s t c d same name
  deleted_apart Group name = group_deleted_apart settings caller tenant s t same c d name
  deleted_apart Rule name = rule_deleted_apart settings caller tenant s t same name
  deleted_apart Router name = router_deleted_apart settings caller tenant named s t c d same name
  deleted_apart Floating name = floating_deleted_apart settings caller tenant s t c d same name
  deleted_apart Policy name = policy_deleted_apart settings caller tenant s t c d same name

  pub step_apart : (call : Call) → answer_alone (api_step settings s caller call) ≡ answer_alone (api_step settings t caller call)
  step_apart (ListCall kind query) = listed_apart settings caller tenant s t c d same kind query
  step_apart (Show kind name fields) = shown_apart settings caller tenant s t c d same kind name fields
  step_apart (Create form) = created_apart form
  step_apart (Update name form) = updated_apart name form
  step_apart (Delete kind name) = deleted_apart kind name
  step_apart (AddInterface router by) = interface_added_apart settings caller tenant named s t c d same router by
  step_apart (RemoveInterface router by) = interface_removed_apart settings caller tenant named s t c d same router by
