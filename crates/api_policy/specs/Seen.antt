-- The row that an id names, among those that the caller sees: one function for each kind.
use Rattle.api_policy.specs.Visibility.{is_own, seen_networks, seen_ports, seen_subnets}
use Rattle.api_types.specs.Refusing.{at_name}
use Rattle.api_types.specs.Ident.{Ident}
use Rattle.api_types.specs.Parts.{project_of}
use Rattle.api_types.specs.RowLists.{RowLists}
use Rattle.api_types.specs.declared.call.Caller.{Caller}
use Rattle.api_types.specs.declared.floating.FloatingRow.{FloatingRow}
use Rattle.api_types.specs.declared.group.GroupRow.{GroupRow}
use Rattle.api_types.specs.declared.group.RuleRow.{RuleRow}
use Rattle.api_types.specs.declared.network.NetworkRow.{NetworkRow}
use Rattle.api_types.specs.declared.policy.PolicyRow.{PolicyRow}
use Rattle.api_types.specs.declared.port.PortRow.{PortRow}
use Rattle.api_types.specs.declared.router.RouterRow.{RouterRow}
use Rattle.api_types.specs.declared.subnet.SubnetRow.{SubnetRow}
use Rattle.std.specs.Prelude.{List, Option, filter}
use Rattle.net_addr.specs.Words.{Text}

-- the rows that the caller's project owns; an administrator sees all
abbrev pub own_rows : {R : Type 0} → (R → Text) → Caller → List R → List R
own_rows project_of caller rows = filter (λ r. is_own caller (project_of r)) rows

abbrev pub network_seen : RowLists → Caller → Option Ident → Option NetworkRow
network_seen rows caller i = at_name (λ r. r.id) i (seen_networks rows caller)

abbrev pub subnet_seen : RowLists → Caller → Option Ident → Option SubnetRow
subnet_seen rows caller i = at_name (λ r. r.id) i (seen_subnets rows caller)

abbrev pub port_seen : RowLists → Caller → Option Ident → Option PortRow
port_seen rows caller i = at_name (λ r. r.id) i (seen_ports rows caller)

abbrev pub group_seen : RowLists → Caller → Option Ident → Option GroupRow
group_seen rows caller i = at_name (λ r. r.id) i (own_rows (λ r. r.project) caller rows.groups)

abbrev pub rule_seen : RowLists → Caller → Option Ident → Option RuleRow
rule_seen rows caller i = at_name (λ r. r.id) i (own_rows (λ r. r.project) caller rows.rules)

abbrev pub router_seen : RowLists → Caller → Option Ident → Option RouterRow
router_seen rows caller i = at_name (λ r. r.id) i (own_rows (λ r. r.project) caller rows.routers)

abbrev pub floating_seen : RowLists → Caller → Option Ident → Option FloatingRow
floating_seen rows caller i =
    at_name (λ r. r.id) i (own_rows (λ r. r.project) caller rows.floatings)

abbrev pub policy_seen : RowLists → Caller → Option Ident → Option PolicyRow
policy_seen rows caller i = at_name (λ r. r.id) i (own_rows (λ r. r.project) caller rows.policies)
