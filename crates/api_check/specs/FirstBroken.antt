-- The first broken clause with the first row that breaks it, kinds in the order of `Kind`.
use Rattle.std.specs.Prelude.{ℕ, ◌∷◌, [], not, nat_lt, nat_le, if◌then◌else◌, List, Option, Some, None, length, position}
use Rattle.std.specs.List.{list_any, list_all}
use Rattle.api_types.specs.RowLists.{RowLists}
use Rattle.api_types.specs.Rows.{project_id}
use Rattle.api_types.specs.Sharing.{is_external_to}
use Rattle.api_types.specs.Consistent.Named.{is_registered}
use Rattle.api_types.specs.Consistent.InForm.{is_segment, is_group_of}
use Rattle.api_types.specs.Consistent.Hosts.{is_host_in}
use Rattle.api_types.specs.Consistent.Disjoint.{subnets_clash, ports_clash}
use Rattle.api_types.specs.Consistent.Segments.{most_networks}
use Rattle.api_types.specs.Consistent.Access.{may_be_there}
use Rattle.api_types.specs.Consistent.NextHops.{is_reached}
use Rattle.api_types.specs.declared.kind.Kind.TheVariants.{Project, Network, Subnet, Port, Group, Rule, Router, Floating, Policy}
use Rattle.api_types.specs.declared.network.NetworkRow.{NetworkRow}
use Rattle.net_settings.specs.declared.settings.Host.{Host}
use Rattle.api_check.specs.declared.broken.Inconsistent.{Inconsistent}
use Rattle.api_check.specs.Broken.{first_some, told_at, breaks, first_place, earlier}
use Rattle.api_ml2.specs.Carrying.{carries}
use Rattle.api_clauses.specs.Numbers.{project_numbered, is_numbered}
use Rattle.api_clauses.specs.Names.{subnet_named, port_named, rule_named, router_named, floating_named, policy_named}
use Rattle.api_clauses.specs.Forms.{subnet_formed, port_formed}
use Rattle.api_clauses.specs.Held.{port_alone, segment_alone}
use Rattle.api_clauses.specs.Services.{network_served, port_serves, router_served, floating_served}
use Rattle.api_clauses.specs.Floatings.{floating_leads}
use Rattle.api_clauses.specs.Groups.{project_grouped, port_grouped, rule_grouped}
use Rattle.api_clauses.specs.Permits.{router_permitted, policy_alone}
use Rattle.api_check.specs.Placing.{port_placed}

unfoldable pub numbers_broken : RowLists → Option Inconsistent
numbers_broken rows = first_some (
    told_at 1 Project project_id rows.projects
    (first_place (project_numbered rows.projects) 0 rows.projects)
    ∷ breaks 1 Network (λ r. r.id) (λ r. is_numbered rows r.id) rows.networks
    ∷ breaks 1 Subnet (λ r. r.id) (λ r. is_numbered rows r.id) rows.subnets
    ∷ breaks 1 Port (λ r. r.id) (λ r. is_numbered rows r.id) rows.ports
    ∷ breaks 1 Group (λ r. r.id) (λ r. is_numbered rows r.id) rows.groups
    ∷ breaks 1 Rule (λ r. r.id) (λ r. is_numbered rows r.id) rows.rules
    ∷ breaks 1 Router (λ r. r.id) (λ r. is_numbered rows r.id) rows.routers
    ∷ breaks 1 Floating (λ r. r.id) (λ r. is_numbered rows r.id) rows.floatings
    ∷ breaks 1 Policy (λ r. r.id) (λ r. is_numbered rows r.id) rows.policies
    ∷ [])

unfoldable pub names_broken : RowLists → Option Inconsistent
names_broken rows = first_some (
    breaks 2 Network (λ r. r.id) (λ r. is_registered rows.projects r.project) rows.networks
    ∷ breaks 2 Subnet (λ r. r.id) (subnet_named rows) rows.subnets
    ∷ breaks 2 Port (λ r. r.id) (port_named rows) rows.ports
    ∷ breaks 2 Group (λ r. r.id) (λ r. is_registered rows.projects r.project) rows.groups
    ∷ breaks 2 Rule (λ r. r.id) (rule_named rows) rows.rules
    ∷ breaks 2 Router (λ r. r.id) (router_named rows) rows.routers
    ∷ breaks 2 Floating (λ r. r.id) (floating_named rows) rows.floatings
    ∷ breaks 2 Policy (λ r. r.id) (policy_named rows) rows.policies
    ∷ [])

unfoldable pub forms_broken : RowLists → Option Inconsistent
forms_broken rows = first_some (
    breaks 3 Network (λ r. r.id) (λ r. is_segment r.segment) rows.networks
    ∷ breaks 3 Subnet (λ r. r.id) (subnet_formed rows.networks) rows.subnets
    ∷ breaks 3 Port (λ r. r.id) (port_formed rows.networks) rows.ports
    ∷ breaks 3 Rule (λ r. r.id) (λ r. is_group_of rows.groups r.project r.group) rows.rules
    ∷ breaks 3 Router (λ r. r.id) (λ r. nat_le (length r.routes) 30) rows.routers
    ∷ [])

unfoldable pub disjoint_broken : RowLists → Option Inconsistent
disjoint_broken rows = first_some (
    breaks 6 Subnet (λ r. r.id) (λ r. not (list_any (subnets_clash r) rows.subnets)) rows.subnets
    ∷ breaks 6 Port (λ r. r.id)
    (λ r. not (list_any (ports_clash rows.routers rows.subnets r) rows.ports)) rows.ports
    ∷ [])

-- a network too many is the first one after the greatest number
unfoldable pub too_many : List NetworkRow → Option ℕ
too_many networks = if nat_lt most_networks (length networks) then Some most_networks else None

unfoldable pub segments_broken : RowLists → Option Inconsistent
segments_broken rows =
    told_at 7 Network (λ r. r.id) rows.networks
    (earlier (position (λ r. not (segment_alone rows.networks r)) rows.networks)
    (too_many rows.networks))

unfoldable pub services_broken : RowLists → Option Inconsistent
services_broken rows = first_some (
    breaks 9 Network (λ r. r.id) (network_served rows) rows.networks
    ∷ breaks 9 Port (λ r. r.id) (port_serves rows) rows.ports
    ∷ breaks 9 Router (λ r. r.id) (router_served rows.ports) rows.routers
    ∷ breaks 9 Floating (λ r. r.id) (floating_served rows) rows.floatings
    ∷ [])

unfoldable pub groups_broken : RowLists → Option Inconsistent
groups_broken rows = first_some (
    breaks 11 Project project_id (project_grouped rows.groups) rows.projects
    ∷ breaks 11 Port (λ r. r.id) (port_grouped rows.groups) rows.ports
    ∷ breaks 11 Rule (λ r. r.id) (rule_grouped rows.groups rows.rules) rows.rules
    ∷ [])

unfoldable pub outsides_broken : RowLists → Option Inconsistent
outsides_broken rows = first_some (
    breaks 13 Router (λ r. r.id) (router_permitted rows.policies) rows.routers
    ∷ breaks 13 Floating (λ r. r.id)
    (λ r. is_external_to rows.policies r.network r.project) rows.floatings
    ∷ breaks 13 Policy (λ r. r.id) (policy_alone rows.policies) rows.policies
    ∷ [])

unfoldable pub first_broken_of : List Host → RowLists → Option Inconsistent
first_broken_of hosts rows = first_some (
    numbers_broken rows
    ∷ names_broken rows
    ∷ forms_broken rows
    ∷ breaks 4 Port (λ r. r.id) (port_alone rows.ports) rows.ports
    ∷ breaks 5 Port (λ r. r.id) (λ r. list_all (is_host_in rows.subnets r) r.fixed) rows.ports
    ∷ disjoint_broken rows
    ∷ segments_broken rows
    ∷ breaks 8 Port (λ r. r.id) (port_placed (carries hosts) rows) rows.ports
    ∷ services_broken rows
    ∷ breaks 10 Floating (λ r. r.id) (floating_leads rows) rows.floatings
    ∷ groups_broken rows
    ∷ breaks 12 Port (λ r. r.id) (may_be_there rows.networks rows.policies) rows.ports
    ∷ outsides_broken rows
    ∷ breaks 14 Router (λ r. r.id)
    (λ r. list_all (is_reached rows.subnets rows.ports r) r.routes) rows.routers
    ∷ [])
