-- What the API machine makes of a call.
use Rattle.plan_floatings.specs.FloatingCalls.{floating_created, floating_deleted, floating_updated}
use Rattle.plan_groups.specs.GroupCalls.{group_created, group_deleted, group_updated, rule_created, rule_deleted}
use Rattle.plan_routers.specs.InterfaceCalls.{interface_added, interface_removed}
use Rattle.plan_networks.specs.NetworkCalls.{network_created, network_deleted, network_updated}
use Rattle.plan_policies.specs.PolicyCalls.{policy_created, policy_deleted, policy_updated}
use Rattle.plan_ports.specs.PortCalls.{port_created, port_deleted, port_updated}
use Rattle.plan_routers.specs.RouterCalls.{router_created, router_deleted, router_updated}
use Rattle.api_policy.specs.Seen.{own_rows}
use Rattle.plan_subnets.specs.SubnetCalls.{subnet_created, subnet_deleted, subnet_updated}
use Rattle.api_policy.specs.Visibility.{seen_networks, seen_ports, seen_subnets}
use Rattle.api_policy.specs.Floatings.{floating_members}
use Rattle.api_policy.specs.Groups.{group_members, rule_members}
use Rattle.api_policy.specs.Networks.{network_members}
use Rattle.api_policy.specs.Policies.{policy_members}
use Rattle.api_policy.specs.Ports.{port_members}
use Rattle.api_policy.specs.Routers.{router_members}
use Rattle.api_policy.specs.Subnets.{subnet_members}
use Rattle.api_machine.specs.Reads.{row_told, rows_listed}
use Rattle.api_types.specs.Refusing.{not_found}
use Rattle.call_parts.specs.State.{State}
use Rattle.api_types.specs.Outcome.{Outcome, Refused}
use Rattle.api_types.specs.declared.call.Call.TheVariants.{List as ListCall, Show, Create, Update, Delete, AddInterface, RemoveInterface}
use Rattle.api_types.specs.declared.call.Call.{Call}
use Rattle.api_types.specs.declared.call.Caller.{Caller}
use Rattle.api_types.specs.declared.call.IdText.{IdText}
use Rattle.api_types.specs.declared.form.Form.TheVariants.{Network as NetworkOf, Subnet as SubnetOf, Port as PortOf, Group as GroupOf, Rule as RuleOf, Router as RouterOf, Floating as FloatingOf, Policy as PolicyOf}
use Rattle.api_types.specs.declared.form.Form.{Form}
use Rattle.api_types.specs.declared.kind.Kind.TheVariants.{Project, Network, Subnet, Port, Group, Rule, Router, Floating, Policy}
use Rattle.api_types.specs.declared.kind.Kind.{Kind}
use Rattle.net_settings.specs.Settings.{SettingsParts}
use Rattle.std.specs.Prelude.{List}
use Rattle.net_addr.specs.Words.{Text}

-- a rule is no row that is changed
abbrev pub no_rule_call : IdText → Outcome
no_rule_call name = Refused (not_found Rule name.text)

abbrev pub row_shown : State → Caller → Kind → IdText → List Text → Outcome
row_shown state caller Project name fields = Refused (not_found Project name.text)
row_shown state caller Network name fields =
    row_told Network (λ r. r.id) (network_members state.rows caller) caller name fields
    (seen_networks state.rows caller)
row_shown state caller Subnet name fields =
    row_told Subnet (λ r. r.id) subnet_members caller name fields (seen_subnets state.rows caller)
row_shown state caller Port name fields =
    row_told Port (λ r. r.id) (port_members state.rows) caller name fields
    (seen_ports state.rows caller)
row_shown state caller Group name fields =
    row_told Group (λ r. r.id) (group_members state.rows) caller name fields
    (own_rows (λ r. r.project) caller state.rows.groups)
row_shown state caller Rule name fields =
    row_told Rule (λ r. r.id) rule_members caller name fields
    (own_rows (λ r. r.project) caller state.rows.rules)
row_shown state caller Router name fields =
    row_told Router (λ r. r.id) (router_members state.rows) caller name fields
    (own_rows (λ r. r.project) caller state.rows.routers)
row_shown state caller Floating name fields =
    row_told Floating (λ r. r.id) floating_members caller name fields
    (own_rows (λ r. r.project) caller state.rows.floatings)
row_shown state caller Policy name fields =
    row_told Policy (λ r. r.id) policy_members caller name fields
    (own_rows (λ r. r.project) caller state.rows.policies)

abbrev pub row_created : SettingsParts → State → Caller → Form → Outcome
row_created settings state caller (NetworkOf form) = network_created settings state caller form
row_created settings state caller (SubnetOf form) = subnet_created settings state caller form
row_created settings state caller (PortOf form) = port_created settings state caller form
row_created settings state caller (GroupOf form) = group_created settings state caller form
row_created settings state caller (RuleOf form) = rule_created settings state caller form
row_created settings state caller (RouterOf form) = router_created settings state caller form
row_created settings state caller (FloatingOf form) = floating_created settings state caller form
row_created settings state caller (PolicyOf form) = policy_created settings state caller form

abbrev pub row_updated : SettingsParts → State → Caller → IdText → Form → Outcome
row_updated settings state caller name (NetworkOf form) = network_updated state caller name form
row_updated settings state caller name (SubnetOf form) =
    subnet_updated settings state caller name form
row_updated settings state caller name (PortOf form) = port_updated settings state caller name form
row_updated settings state caller name (GroupOf form) = group_updated state caller name form
row_updated settings state caller name (RuleOf form) = no_rule_call name
row_updated settings state caller name (RouterOf form) =
    router_updated settings state caller name form
row_updated settings state caller name (FloatingOf form) = floating_updated state caller name form
row_updated settings state caller name (PolicyOf form) = policy_updated state caller name form

abbrev pub row_deleted : State → Caller → Kind → IdText → Outcome
row_deleted state caller Project name = Refused (not_found Project name.text)
row_deleted state caller Network name = network_deleted state caller name
row_deleted state caller Subnet name = subnet_deleted state caller name
row_deleted state caller Port name = port_deleted state caller name
row_deleted state caller Group name = group_deleted state caller name
row_deleted state caller Rule name = rule_deleted state caller name
row_deleted state caller Router name = router_deleted state caller name
row_deleted state caller Floating name = floating_deleted state caller name
row_deleted state caller Policy name = policy_deleted state caller name

abbrev pub api_step : SettingsParts → State → Caller → Call → Outcome
api_step settings state caller (ListCall kind query) = rows_listed state.rows caller kind query
api_step settings state caller (Show kind name fields) = row_shown state caller kind name fields
api_step settings state caller (Create form) = row_created settings state caller form
api_step settings state caller (Update name form) = row_updated settings state caller name form
api_step settings state caller (Delete kind name) = row_deleted state caller kind name
api_step settings state caller (AddInterface router by) =
    interface_added settings state caller router by
api_step settings state caller (RemoveInterface router by) =
    interface_removed state caller router by
