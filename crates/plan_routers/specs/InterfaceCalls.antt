-- What adding and removing interfaces of routers comes to (Networking API v2.0, add and remove
-- interface).
use Rattle.call_parts.specs.BodyNames.{no_id}
use Rattle.call_parts.specs.Edits.{Add, Drop, Edit, Put, accepted}
use Rattle.api_types.specs.HeldAddresses.{fixed_at, is_address_held}
use Rattle.call_parts.specs.Leaving.{disassociations}
use Rattle.api_ipam.specs.MacChoice.{free_mac}
use Rattle.api_policy.specs.Permits.{network_owner, owner_only}
use Rattle.api_ml2.specs.Placement.{host_or_none}
use Rattle.api_policy.specs.Marked.{is_marked}
use Rattle.api_types.specs.RouterWays.{interfaces_of}
use Rattle.api_router.specs.RouterRules.{bad_interface_port, bad_interface_subnet}
use Rattle.api_policy.specs.Seen.{port_seen, router_seen, subnet_seen}
use Rattle.api_ml2.specs.ServicePorts.{interface_owner, service_port}
use Rattle.api_policy.specs.Uses.{floating_in_use, port_in_use, route_in_use}
use Rattle.api_policy.specs.Trees.{id_word, list_of}
use Rattle.api_ml2.specs.Binding.{bound}
use Rattle.api_types.specs.Refusing.{first_refusal, needing, not_found, unless, when}
use Rattle.call_parts.specs.State.{State, drawing_at, is_last}
use Rattle.api_types.specs.Ident.{Ident, ident_text}
use Rattle.api_types.specs.Outcome.{Outcome}
use Rattle.api_types.specs.Owners.{holds_in}
use Rattle.api_types.specs.Printed.{NamedTree, ShownRow, InterfaceRow, word}
use Rattle.api_types.specs.Registration.{drawn_id}
use Rattle.api_types.specs.RowLists.{RowLists}
use Rattle.api_types.specs.Table.{row_of}
use Rattle.api_types.specs.declared.call.Caller.{Caller}
use Rattle.api_types.specs.declared.call.IdText.{IdText}
use Rattle.api_types.specs.declared.call.InterfaceBy.TheVariants.{Subnet as BySubnet, Port as ByPort}
use Rattle.api_types.specs.declared.call.InterfaceBy.{InterfaceBy}
use Rattle.api_types.specs.declared.floating.FloatingRow.{FloatingRow}
use Rattle.api_types.specs.declared.kind.Kind.TheVariants.{Subnet as SubnetKind, Port as PortKind, Router as RouterKind}
use Rattle.api_types.specs.declared.kind.Row.TheVariants.{Port}
use Rattle.api_types.specs.declared.network.NetworkRow.{NetworkRow}
use Rattle.api_types.specs.declared.port.Fixed.{Fixed}
use Rattle.api_types.specs.declared.port.PortRow.{PortRow}
use Rattle.api_types.specs.declared.refusal.Refusal.TheVariants.{CountersSpent, Invalid, NotFound, Taken}
use Rattle.api_types.specs.declared.refusal.Refusal.{Refusal}
use Rattle.api_types.specs.declared.refusal.Value.TheVariants.{Address as AddressValue}
use Rattle.api_types.specs.declared.router.RouterRow.{RouterRow}
use Rattle.api_types.specs.declared.subnet.SubnetRow.{SubnetRow}
use Rattle.net_addr.specs.declared.address.Addr.{Addr}
use Rattle.net_settings.specs.Settings.{SettingsParts}
use Rattle.std.specs.Prelude.{List, Option, Some, [], codes, false, find, true, ◌++◌, ◌∷◌}
use Rattle.net_addr.specs.Words.{MacAddress}

-- what is answered: the router, the port and its subnet

abbrev pub interface_members : RouterRow → PortRow → Ident → List NamedTree
interface_members r p subnet =
    (codes "id", id_word r.id)
    ∷ (codes "network_id", id_word p.network)
    ∷ (codes "port_id", id_word p.id)
    ∷ (codes "project_id", word p.project)
    ∷ (codes "subnet_id", id_word subnet)
    ∷ (codes "subnet_ids", list_of id_word (subnet ∷ []))
    ∷ (codes "tenant_id", word p.project)
    ∷ []

abbrev pub interface_shown : RouterRow → PortRow → Ident → ShownRow
interface_shown r p subnet = record { kind = RouterKind; members = interface_members r p subnet }

-- an interface by subnet: a port with the subnet's gateway address

abbrev pub subnet_refusal : RowLists → Caller → RouterRow → SubnetRow → Addr → Option Refusal
subnet_refusal rows caller r s x = first_refusal (
    bad_interface_subnet rows r s
    ∷ owner_only caller r.project
    ∷ network_owner rows caller true s.network
    ∷ when (is_address_held rows.ports s.network x) (Taken (AddressValue x) s.network)
    ∷ [])

abbrev pub interface_port : SettingsParts → RowLists → Caller → RouterRow → NetworkRow → Ident
    → MacAddress → Fixed → PortRow
interface_port settings rows caller r n i mac f =
    let p : PortRow = service_port settings n i r.project mac (f ∷ []) interface_owner
    (ident_text r.id) (host_or_none r.host) in
    record p { by_admin = is_marked rows caller r.project n }

abbrev pub interface_made : RowLists → RouterRow → PortRow → Ident → Outcome
interface_made rows r p subnet =
    accepted rows (Add (Port p) ∷ []) (λ after. InterfaceRow (interface_shown r p subnet))

abbrev pub added_by_subnet : SettingsParts → State → Caller → RouterRow → SubnetRow → NetworkRow
    → Addr → Outcome
added_by_subnet settings state caller r s n x =
    unless (subnet_refusal state.rows caller r s x)
    (needing CountersSpent (free_mac state.rows.ports n.id) (λ mac.
    needing CountersSpent (drawing_at state r.project 1) (λ drawing.
    interface_made drawing.rows r
    (interface_port settings drawing.rows caller r n (drawn_id drawing 0) mac (fixed_at s.id x))
    s.id)))

-- an interface by port: the port becomes the router's

abbrev pub port_refusal : State → Caller → RouterRow → PortRow → Option Refusal
port_refusal state caller r p = first_refusal (
    bad_interface_port state.rows r p
    ∷ owner_only caller r.project
    ∷ owner_only caller p.project
    ∷ port_in_use state.rows caller r p
    ∷ when (is_last state) CountersSpent
    ∷ [])

abbrev pub taken_over : SettingsParts → RouterRow → NetworkRow → PortRow → PortRow
taken_over settings r n p = record p {
  pairs = [];
  secured = false;
  groups = [];
  device = ident_text r.id;
  owner = interface_owner;
  host = host_or_none r.host;
  vif = bound settings n.segment (host_or_none r.host);
}

-- the subnet of its one address
abbrev pub first_subnet : List Fixed → Ident
first_subnet [] = no_id
first_subnet (f ∷ fixed) = f.subnet

abbrev pub added_by_port : SettingsParts → State → Caller → RouterRow → PortRow → NetworkRow
    → Outcome
added_by_port settings state caller r p n =
    unless (port_refusal state caller r p)
    (accepted state.rows (Put (Port (taken_over settings r n p)) ∷ []) (λ after.
    InterfaceRow (interface_shown r p (first_subnet p.fixed))))

abbrev pub interface_by : SettingsParts → State → Caller → RouterRow → InterfaceBy → Outcome
interface_by settings state caller r (BySubnet i) =
    needing (not_found SubnetKind (ident_text i)) (subnet_seen state.rows caller (Some i)) (λ s.
    needing (Invalid (codes "subnet_id")) s.gateway (λ x.
    needing (not_found SubnetKind (ident_text i))
    (row_of (λ n. n.id) s.network state.rows.networks) (λ n.
    added_by_subnet settings state caller r s n x)))
interface_by settings state caller r (ByPort i) =
    needing (not_found PortKind (ident_text i)) (port_seen state.rows caller (Some i)) (λ p.
    needing (not_found PortKind (ident_text i)) (row_of (λ n. n.id) p.network state.rows.networks)
    (λ n.
    added_by_port settings state caller r p n))

abbrev pub interface_added : SettingsParts → State → Caller → IdText → InterfaceBy → Outcome
interface_added settings state caller name by =
    needing (not_found RouterKind name.text) (router_seen state.rows caller name.id) (λ r.
    interface_by settings state caller r by)

-- removing an interface, whose port goes

abbrev pub no_interface : Ident → Refusal
no_interface i = NotFound (codes "RouterInterface") (ident_text i)

abbrev pub interface_gone : List FloatingRow → PortRow → List Edit
interface_gone floatings p = disassociations floatings p.id [] ++ Drop PortKind p.id ∷ []

abbrev pub removal_refusal : State → Caller → RouterRow → PortRow → Option Refusal → Option Refusal
removal_refusal state caller r p owner = first_refusal (
    owner_only caller r.project
    ∷ owner
    ∷ route_in_use state.rows caller r r.routes p
    ∷ floating_in_use state.rows caller r p
    ∷ when (is_last state) CountersSpent
    ∷ [])

-- by what the owner of the port or of the subnet's network may
abbrev pub port_removed : State → Caller → RouterRow → Option Refusal → PortRow → Outcome
port_removed state caller r owner p =
    unless (removal_refusal state caller r p owner)
    (accepted state.rows (interface_gone state.rows.floatings p) (λ after.
    InterfaceRow (interface_shown r p (first_subnet p.fixed))))

abbrev pub removed_by : State → Caller → RouterRow → InterfaceBy → Outcome
removed_by state caller r (BySubnet i) =
    needing (not_found SubnetKind (ident_text i)) (subnet_seen state.rows caller (Some i)) (λ s.
    needing (no_interface i) (find (holds_in i) (interfaces_of state.rows.ports r))
    (port_removed state caller r (network_owner state.rows caller true s.network)))
removed_by state caller r (ByPort i) =
    needing (not_found PortKind (ident_text i)) (port_seen state.rows caller (Some i)) (λ p.
    needing (no_interface i) (row_of (λ q. q.id) i (interfaces_of state.rows.ports r))
    (port_removed state caller r (owner_only caller p.project)))

abbrev pub interface_removed : State → Caller → IdText → InterfaceBy → Outcome
interface_removed state caller name by =
    needing (not_found RouterKind name.text) (router_seen state.rows caller name.id) (λ r.
    removed_by state caller r by)
