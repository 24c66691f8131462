-- Which rule of policy forbids a call: the first that is broken, by what the body asks for and by
-- the rows that path and body name, where they are there and seen. What is only shown or listed is
-- forbidden to nobody.
use Rattle.api_policy.specs.Permits.{breaks_admin_only, breaks_network_access, breaks_network_owner, breaks_owner_only, breaks_port_delete}
use Rattle.api_policy.specs.Reserved.{floating_for_admin, network_for_admin, policy_for_admin, port_for_admin, port_for_owner, router_for_admin, snat_asked}
use Rattle.api_policy.specs.Seen.{floating_seen, group_seen, network_seen, policy_seen, port_seen, router_seen, rule_seen, subnet_seen}
use Rattle.api_types.specs.Given.{is_for_other, value_of}
use Rattle.api_types.specs.Ident.{Ident}
use Rattle.api_types.specs.RowLists.{RowLists}
use Rattle.api_types.specs.declared.call.Call.TheVariants.{AddInterface, Create, Delete, List as ListCall, RemoveInterface, Show, Update}
use Rattle.api_types.specs.declared.call.Call.{Call}
use Rattle.api_types.specs.declared.call.Caller.{Caller}
use Rattle.api_types.specs.declared.call.InterfaceBy.TheVariants.{Port as ByPort, Subnet as BySubnet}
use Rattle.api_types.specs.declared.call.InterfaceBy.{InterfaceBy}
use Rattle.api_types.specs.declared.form.Form.TheVariants.{Network as NetworkOf, Subnet as SubnetOf, Port as PortOf, Group as GroupOf, Rule as RuleOf, Router as RouterOf, Floating as FloatingOf, Policy as PolicyOf}
use Rattle.api_types.specs.declared.form.Form.{Form}
use Rattle.api_types.specs.declared.form.PortForm.{PortForm}
use Rattle.api_types.specs.declared.group.GroupRow.{GroupRow}
use Rattle.api_types.specs.declared.group.RuleRow.{RuleRow}
use Rattle.api_types.specs.declared.floating.FloatingRow.{FloatingRow}
use Rattle.api_types.specs.declared.kind.Kind.TheVariants.{Project, Network, Subnet, Port, Group, Rule, Router, Floating, Policy}
use Rattle.api_types.specs.declared.kind.Kind.{Kind}
use Rattle.api_types.specs.declared.network.NetworkRow.{NetworkRow}
use Rattle.api_types.specs.declared.policy.PolicyRow.{PolicyRow}
use Rattle.api_types.specs.declared.port.PortRow.{PortRow}
use Rattle.api_types.specs.declared.refusal.PolicyRule.TheVariants.{AdminOnly, NetworkAccess, NetworkOwner, OwnerOnly, PortDelete}
use Rattle.api_types.specs.declared.refusal.PolicyRule.{PolicyRule}
use Rattle.api_types.specs.declared.router.RouterRow.{RouterRow}
use Rattle.api_types.specs.declared.subnet.SubnetRow.{SubnetRow}
use Rattle.std.specs.Option.{option_or}
use Rattle.std.specs.Prelude.{Bool, None, Option, Some, if◌then◌else◌, is_some, option_and_then, true}
use Rattle.net_addr.specs.Words.{Text}

abbrev pub rule_if : Bool → PolicyRule → Option PolicyRule
rule_if broken rule = if broken then Some rule else None

abbrev pub admin_rule : Caller → Bool → Option PolicyRule
admin_rule caller needed = rule_if (breaks_admin_only caller needed) AdminOnly

abbrev pub owner_rule : Caller → Text → Option PolicyRule
owner_rule caller project = rule_if (breaks_owner_only caller project) OwnerOnly

abbrev pub network_rule : RowLists → Caller → Bool → Ident → Option PolicyRule
network_rule rows caller needed network =
    rule_if (breaks_network_owner rows caller needed network) NetworkOwner

abbrev pub access_rule : RowLists → Caller → Ident → Option PolicyRule
access_rule rows caller network = rule_if (breaks_network_access rows caller network) NetworkAccess

abbrev pub deletion_rule : RowLists → Caller → PortRow → Option PolicyRule
deletion_rule rows caller p = rule_if (breaks_port_delete rows caller p) PortDelete

-- by the row that is named, where it is seen

abbrev pub on_network : RowLists → Caller → Option Ident → Option PolicyRule
on_network rows caller i =
    option_and_then (λ (n : NetworkRow). network_rule rows caller true n.id)
    (network_seen rows caller i)

abbrev pub network_owned : RowLists → Caller → Option Ident → Option PolicyRule
network_owned rows caller i =
    option_and_then (λ (n : NetworkRow). owner_rule caller n.project) (network_seen rows caller i)

abbrev pub subnet_owned : RowLists → Caller → Option Ident → Option PolicyRule
subnet_owned rows caller i =
    option_and_then (λ (s : SubnetRow). network_rule rows caller true s.network)
    (subnet_seen rows caller i)

abbrev pub port_owned : RowLists → Caller → Option Ident → Option PolicyRule
port_owned rows caller i =
    option_and_then (λ (p : PortRow). owner_rule caller p.project) (port_seen rows caller i)

abbrev pub group_owned : RowLists → Caller → Option Ident → Option PolicyRule
group_owned rows caller i =
    option_and_then (λ (g : GroupRow). owner_rule caller g.project) (group_seen rows caller i)

abbrev pub rule_owned : RowLists → Caller → Option Ident → Option PolicyRule
rule_owned rows caller i =
    option_and_then (λ (r : RuleRow). owner_rule caller r.project) (rule_seen rows caller i)

abbrev pub router_owned : RowLists → Caller → Option Ident → Option PolicyRule
router_owned rows caller i =
    option_and_then (λ (r : RouterRow). owner_rule caller r.project) (router_seen rows caller i)

abbrev pub floating_owned : RowLists → Caller → Option Ident → Option PolicyRule
floating_owned rows caller i =
    option_and_then (λ (f : FloatingRow). owner_rule caller f.project)
    (floating_seen rows caller i)

abbrev pub policy_owned : RowLists → Caller → Option Ident → Option PolicyRule
policy_owned rows caller i =
    option_and_then (λ (l : PolicyRow). owner_rule caller l.project) (policy_seen rows caller i)

-- making a row

abbrev pub port_on : RowLists → Caller → PortForm → NetworkRow → Option PolicyRule
port_on rows caller form n =
    option_or (network_rule rows caller (port_for_owner form) n.id) (access_rule rows caller n.id)

abbrev pub port_made_by : RowLists → Caller → PortForm → Option PolicyRule
port_made_by rows caller form =
    option_or (admin_rule caller (port_for_admin caller form))
    (option_and_then (port_on rows caller form)
    (network_seen rows caller (value_of form.network_id)))

abbrev pub creation_rule : RowLists → Caller → Form → Option PolicyRule
creation_rule rows caller (NetworkOf form) = admin_rule caller (network_for_admin caller form)
creation_rule rows caller (SubnetOf form) = on_network rows caller (value_of form.network_id)
creation_rule rows caller (PortOf form) = port_made_by rows caller form
creation_rule rows caller (GroupOf form) =
    admin_rule caller (is_for_other caller form.project_id form.tenant_id)
creation_rule rows caller (RuleOf form) = group_owned rows caller (value_of form.security_group_id)
creation_rule rows caller (RouterOf form) = admin_rule caller (router_for_admin caller form)
creation_rule rows caller (FloatingOf form) = admin_rule caller (floating_for_admin caller form)
creation_rule rows caller (PolicyOf form) =
    option_or (admin_rule caller (policy_for_admin caller form))
    (on_network rows caller (value_of form.object_id))

-- changing a row; rules of security groups aren't changed

abbrev pub change_of_port : RowLists → Caller → PortForm → PortRow → Option PolicyRule
change_of_port rows caller form p =
    option_or (owner_rule caller p.project)
    (network_rule rows caller (port_for_owner form) p.network)

abbrev pub port_changed_by : RowLists → Caller → Option Ident → PortForm → Option PolicyRule
port_changed_by rows caller i form =
    option_or (admin_rule caller (port_for_admin caller form))
    (option_and_then (change_of_port rows caller form) (port_seen rows caller i))

abbrev pub update_rule : RowLists → Caller → Option Ident → Form → Option PolicyRule
update_rule rows caller i (NetworkOf form) =
    option_or (admin_rule caller (network_for_admin caller form)) (network_owned rows caller i)
update_rule rows caller i (SubnetOf form) = subnet_owned rows caller i
update_rule rows caller i (PortOf form) = port_changed_by rows caller i form
update_rule rows caller i (GroupOf form) = group_owned rows caller i
update_rule rows caller i (RuleOf form) = None
update_rule rows caller i (RouterOf form) =
    option_or (admin_rule caller (is_some (snat_asked form))) (router_owned rows caller i)
update_rule rows caller i (FloatingOf form) = floating_owned rows caller i
update_rule rows caller i (PolicyOf form) =
    option_or (admin_rule caller (policy_for_admin caller form)) (policy_owned rows caller i)

-- taking a row out

abbrev pub gone_by : RowLists → Caller → Kind → Option Ident → Option PolicyRule
gone_by rows caller Project i = None
gone_by rows caller Network i = network_owned rows caller i
gone_by rows caller Subnet i = subnet_owned rows caller i
gone_by rows caller Port i = option_and_then (deletion_rule rows caller) (port_seen rows caller i)
gone_by rows caller Group i = group_owned rows caller i
gone_by rows caller Rule i = rule_owned rows caller i
gone_by rows caller Router i = router_owned rows caller i
gone_by rows caller Floating i = floating_owned rows caller i
gone_by rows caller Policy i = policy_owned rows caller i

-- the interfaces of routers

abbrev pub named_by : RowLists → Caller → InterfaceBy → Option PolicyRule
named_by rows caller (BySubnet i) = subnet_owned rows caller (Some i)
named_by rows caller (ByPort i) = port_owned rows caller (Some i)

abbrev pub interface_rule : RowLists → Caller → Option Ident → InterfaceBy → Option PolicyRule
interface_rule rows caller i by = option_or (router_owned rows caller i) (named_by rows caller by)

abbrev pub forbidden_by : RowLists → Caller → Call → Option PolicyRule
forbidden_by rows caller (ListCall kind query) = None
forbidden_by rows caller (Show kind name fields) = None
forbidden_by rows caller (Create form) = creation_rule rows caller form
forbidden_by rows caller (Update name form) = update_rule rows caller name.id form
forbidden_by rows caller (Delete kind name) = gone_by rows caller kind name.id
forbidden_by rows caller (AddInterface router by) = interface_rule rows caller router.id by
forbidden_by rows caller (RemoveInterface router by) = interface_rule rows caller router.id by
