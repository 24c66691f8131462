-- Which rows a caller sees. Projects are told apart by name; administrators see all.
use Rattle.std.specs.Prelude.{◌||◌, Bool, false, List, filter}
use Rattle.std.specs.Str.{bytes_eq}
use Rattle.net_addr.specs.Words.{Text}
use Rattle.api_types.specs.Ident.{Ident}
use Rattle.api_types.specs.Lists.{stands_so}
use Rattle.api_types.specs.RowLists.{RowLists}
use Rattle.api_types.specs.Sharing.{is_shared_with, is_external_to}
use Rattle.api_types.specs.declared.call.Caller.{Caller}
use Rattle.api_types.specs.declared.kind.Kind.{Kind}
use Rattle.api_types.specs.declared.kind.Kind.TheVariants.{Project, Network, Subnet, Port, Group, Rule, Router, Floating, Policy}
use Rattle.api_types.specs.declared.network.NetworkRow.{NetworkRow}
use Rattle.api_types.specs.declared.subnet.SubnetRow.{SubnetRow}
use Rattle.api_types.specs.declared.port.PortRow.{PortRow}

-- a caller sees what its project owns, and an administrator sees all
abbrev pub is_own : Caller → Text → Bool
is_own caller project = caller.admin || bytes_eq project caller.project

-- and a project sees a network that is shared with it or external to it
abbrev pub sees_network : RowLists → Caller → NetworkRow → Bool
sees_network rows caller n =
    is_own caller n.project
    || (is_shared_with rows.policies n.id caller.project
    || is_external_to rows.policies n.id caller.project)

-- whether the network is there and is the project's
abbrev pub owns_network : RowLists → Text → Ident → Bool
owns_network rows project i =
    stands_so (λ (n : NetworkRow). n.id) i (λ (n : NetworkRow). bytes_eq n.project project)
    rows.networks

-- whether the network is there and is the project's or shared with it
abbrev pub uses_network : RowLists → Text → Ident → Bool
uses_network rows project i =
    stands_so (λ (n : NetworkRow). n.id) i
    (λ (n : NetworkRow). bytes_eq n.project project || is_shared_with rows.policies n.id project)
    rows.networks

-- the subnets of such a network
abbrev pub sees_subnet : RowLists → Caller → SubnetRow → Bool
sees_subnet rows caller s = is_own caller s.project || uses_network rows caller.project s.network

-- each port on its own networks
abbrev pub sees_port : RowLists → Caller → PortRow → Bool
sees_port rows caller p = is_own caller p.project || owns_network rows caller.project p.network

-- the rows that a caller sees, in order of creation
abbrev pub seen_networks : RowLists → Caller → List NetworkRow
seen_networks rows caller = filter (sees_network rows caller) rows.networks

abbrev pub seen_subnets : RowLists → Caller → List SubnetRow
seen_subnets rows caller = filter (sees_subnet rows caller) rows.subnets

abbrev pub seen_ports : RowLists → Caller → List PortRow
seen_ports rows caller = filter (sees_port rows caller) rows.ports

-- whether the row of a kind with this id is there and is seen; projects are no rows that are shown
abbrev pub sees_row : RowLists → Caller → Kind → Ident → Bool
sees_row rows caller Project i = false
sees_row rows caller Network i = stands_so (λ r. r.id) i (sees_network rows caller) rows.networks
sees_row rows caller Subnet i = stands_so (λ r. r.id) i (sees_subnet rows caller) rows.subnets
sees_row rows caller Port i = stands_so (λ r. r.id) i (sees_port rows caller) rows.ports
sees_row rows caller Group i = stands_so (λ r. r.id) i (λ r. is_own caller r.project) rows.groups
sees_row rows caller Rule i = stands_so (λ r. r.id) i (λ r. is_own caller r.project) rows.rules
sees_row rows caller Router i = stands_so (λ r. r.id) i (λ r. is_own caller r.project) rows.routers
sees_row rows caller Floating i =
    stands_so (λ r. r.id) i (λ r. is_own caller r.project) rows.floatings
sees_row rows caller Policy i =
    stands_so (λ r. r.id) i (λ r. is_own caller r.project) rows.policies
