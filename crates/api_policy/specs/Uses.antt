-- Who uses a row that a call would change or take out. Each gives the refusal of the first use, in
-- order of creation; the using row is told where the caller sees it.
use Rattle.api_types.specs.Association.{Aim}
use Rattle.api_policy.specs.PolicyNeeds.{is_unshared, policy_user}
use Rattle.api_types.specs.RouterWays.{is_lost_hop, router_ports, other_ports, reaches}
use Rattle.api_types.specs.Owners.{is_service, device_is, holds_in, is_dhcp, is_interface, is_port_of}
use Rattle.api_policy.specs.Visibility.{sees_row}
use Rattle.api_policy.specs.Networks.{permits_all}
use Rattle.api_policy.specs.Served.{HeldPort, held_port}
use Rattle.api_types.specs.Refusing.{first_refusal, when}
use Rattle.api_types.specs.Consistent.Floating.{stands_for}
use Rattle.api_types.specs.Ident.{Ident}
use Rattle.api_types.specs.Lists.{is_empty, is_some_so}
use Rattle.api_types.specs.RowLists.{RowLists}
use Rattle.api_types.specs.Table.{ident_eq, row_of}
use Rattle.api_types.specs.declared.call.Caller.{Caller}
use Rattle.api_types.specs.declared.floating.FloatingRow.{FloatingRow}
use Rattle.api_types.specs.declared.floating.Target.{Target}
use Rattle.api_types.specs.declared.group.GroupRow.{GroupRow}
use Rattle.api_types.specs.declared.kind.Kind.TheVariants.{Network as NetworkKind, Subnet as SubnetKind, Port as PortKind, Group as GroupKind, Router as RouterKind, Floating as FloatingKind, Policy as PolicyKind}
use Rattle.api_types.specs.declared.kind.Kind.{Kind}
use Rattle.api_types.specs.declared.network.NetworkRow.{NetworkRow}
use Rattle.api_types.specs.declared.policy.Action.TheVariants.{External, Shared}
use Rattle.api_types.specs.declared.policy.Action.{Action}
use Rattle.api_types.specs.declared.policy.PolicyRow.{PolicyRow}
use Rattle.api_types.specs.declared.port.Fixed.{Fixed}
use Rattle.api_types.specs.declared.port.PortRow.{PortRow}
use Rattle.api_types.specs.declared.refusal.Refusal.TheVariants.{InUse}
use Rattle.api_types.specs.declared.refusal.Refusal.{Refusal}
use Rattle.api_types.specs.declared.refusal.UseRule.TheVariants.{FloatingIpPortAlreadyAssociated, GatewayIpInUse, NetworkInUse, PortInUse, RbacPolicyInUse, RouterExternalGatewayInUseByFloatingIp, RouterInUse, RouterInterfaceInUseByFloatingIp, RouterInterfaceInUseByRoute, SecurityGroupCannotRemoveDefault, SecurityGroupInUse, ServicePortInUse, SubnetInUse}
use Rattle.api_types.specs.declared.refusal.UseRule.{UseRule}
use Rattle.api_types.specs.declared.router.Gateway.{Gateway}
use Rattle.api_types.specs.declared.router.RouterRow.{RouterRow}
use Rattle.api_types.specs.declared.subnet.Hop.{Hop}
use Rattle.api_types.specs.declared.subnet.SubnetRow.{SubnetRow}
use Rattle.net_addr.specs.Addresses.{addr_eq, number}
use Rattle.net_addr.specs.declared.address.Addr.TheVariants.{V4}
use Rattle.net_addr.specs.declared.address.Addr.{Addr}
use Rattle.std.specs.List.{list_any}
use Rattle.std.specs.Option.{option_or}
use Rattle.std.specs.Prelude.{Bool, List, None, Option, Some, [], find, if◌then◌else◌, not, option_and_then, option_map, ◌&&◌, ◌||◌, ◌∷◌}
use Rattle.net_addr.specs.Words.{Text}

-- of the row that uses another one, what the caller is told: nothing where it doesn't see it
abbrev pub told_user : RowLists → Caller → Option (Kind × Ident) → Option (Kind × Ident)
told_user rows caller None = None
told_user rows caller (Some user) = if sees_row rows caller user.0 user.1 then Some user else None

-- a row that a port uses
abbrev pub used_by_port : RowLists → Caller → UseRule → Kind → Ident → PortRow → Refusal
used_by_port rows caller rule kind i p =
    InUse rule kind i (told_user rows caller (Some (PortKind, p.id)))

-- a network: a port on it other than its DHCP port
abbrev pub is_network_user : Ident → PortRow → Bool
is_network_user i p = ident_eq i p.network && not (is_dhcp p.owner)

abbrev pub network_in_use : RowLists → Caller → Ident → Option Refusal
network_in_use rows caller i =
    option_map (used_by_port rows caller NetworkInUse NetworkKind i)
    (find (is_network_user i) rows.ports)

-- a subnet: such a port has an address of it
abbrev pub is_subnet_user : Ident → PortRow → Bool
is_subnet_user i p = not (is_dhcp p.owner) && holds_in i p

abbrev pub subnet_in_use : RowLists → Caller → Ident → Option Refusal
subnet_in_use rows caller i =
    option_map (used_by_port rows caller SubnetInUse SubnetKind i)
    (find (is_subnet_user i) rows.ports)

-- a subnet's gateway, where another one is set: a router's interface holds the old one
abbrev pub holds_gateway : SubnetRow → Addr → PortRow → Bool
holds_gateway s gateway p =
    is_interface p.owner
    && list_any (λ (f : Fixed). ident_eq s.id f.subnet && addr_eq f.address gateway) p.fixed

abbrev pub gateway_user : List PortRow → SubnetRow → Option Addr → Option Addr → Option PortRow
gateway_user ports s None new = None
gateway_user ports s (Some old) new =
    if is_some_so (λ x. addr_eq x old) new then None else find (holds_gateway s old) ports

abbrev pub old_gateway_in_use : RowLists → Caller → SubnetRow → SubnetRow → Option Refusal
old_gateway_in_use rows caller old new =
    option_map (used_by_port rows caller GatewayIpInUse SubnetKind old.id)
    (gateway_user rows.ports old old.gateway new.gateway)

-- the router, or else the floating address, that a service's port names by its device
abbrev pub named_router : List RouterRow → Text → Option (Kind × Ident)
named_router routers device =
    option_map (λ (r : RouterRow). (RouterKind, r.id))
    (find (λ (r : RouterRow). device_is device r.id) routers)

abbrev pub named_floating : List FloatingRow → Text → Option (Kind × Ident)
named_floating floatings device =
    option_map (λ (f : FloatingRow). (FloatingKind, f.id))
    (find (λ (f : FloatingRow). device_is device f.id) floatings)

abbrev pub named_by_device : RowLists → Text → Option (Kind × Ident)
named_by_device rows device =
    option_or (named_router rows.routers device) (named_floating rows.floatings device)

-- a service's port that is taken out, or changed in more than name and description
abbrev pub service_in_use : RowLists → Caller → Bool → PortRow → Option Refusal
service_in_use rows caller touched p =
    when (touched && is_service p.owner)
    (InUse ServicePortInUse PortKind p.id (told_user rows caller (named_by_device rows p.device)))

-- a port that has a device already, where it is to become a router's
abbrev pub port_in_use : RowLists → Caller → RouterRow → PortRow → Option Refusal
port_in_use rows caller r p =
    when (is_service p.owner || not (is_empty p.device))
    (InUse PortInUse RouterKind r.id
    (if is_service p.owner then told_user rows caller (named_by_device rows p.device) else None))

-- a group: the default one always is, and otherwise a port names it
abbrev pub default_in_use : GroupRow → Option Refusal
default_in_use g = when g.is_default (InUse SecurityGroupCannotRemoveDefault GroupKind g.id None)

abbrev pub is_group_user : Ident → PortRow → Bool
is_group_user i p = list_any (ident_eq i) p.groups

abbrev pub group_in_use : RowLists → Caller → Ident → Option Refusal
group_in_use rows caller i =
    option_map (used_by_port rows caller SecurityGroupInUse GroupKind i)
    (find (is_group_user i) rows.ports)

-- a router: it has an interface
abbrev pub is_interface_of : RouterRow → PortRow → Bool
is_interface_of r p = is_interface p.owner && is_port_of r p

abbrev pub router_in_use : RowLists → Caller → RouterRow → Option Refusal
router_in_use rows caller r =
    option_map (used_by_port rows caller RouterInUse RouterKind r.id)
    (find (is_interface_of r) rows.ports)

-- a policy: a port on its network needs it, by the policies as they would stand
abbrev pub policy_in_use : RowLists → Caller → List PolicyRow → PolicyRow → Option Refusal
policy_in_use rows caller policies l =
    option_map (used_by_port rows caller RbacPolicyInUse PolicyKind l.id)
    (option_and_then (policy_user rows policies) (row_of (λ n. n.id) l.object rows.networks))

-- the policies that `shared` and `router:external` are: of two that would go, the one that the
-- first port needs
abbrev pub open_policy : List PolicyRow → Ident → Action → Option PolicyRow
open_policy policies network action = find (permits_all network action) policies

abbrev pub needed_policy : List PolicyRow → List PolicyRow → NetworkRow → HeldPort
    → Option PolicyRow
needed_policy old kept n p =
    if is_unshared kept n p then open_policy old n.id Shared else open_policy old n.id External

abbrev pub used_open_policy : RowLists → Caller → PortRow → PolicyRow → Refusal
used_open_policy rows caller p l = used_by_port rows caller RbacPolicyInUse PolicyKind l.id p

abbrev pub needed_by : RowLists → Caller → List PolicyRow → NetworkRow → PortRow → Option Refusal
needed_by rows caller kept n p =
    option_map (used_open_policy rows caller p)
    (needed_policy rows.policies kept n (held_port rows p))

abbrev pub open_in_use : RowLists → Caller → List PolicyRow → NetworkRow → Option Refusal
open_in_use rows caller kept n =
    option_and_then (needed_by rows caller kept n) (policy_user rows kept n)

-- a router's port that goes: a route, or a floating address, needs it
abbrev pub route_in_use : RowLists → Caller → RouterRow → List Hop → PortRow → Option Refusal
route_in_use rows caller r routes p =
    when
    (list_any (is_lost_hop rows.subnets (other_ports p.id (router_ports rows.ports r)) p) routes)
    (InUse RouterInterfaceInUseByRoute RouterKind r.id
    (told_user rows caller (Some (RouterKind, r.id))))

-- a floating address leads by the router, and to an address in a subnet of the port
abbrev pub leads_by : Ident → FloatingRow → Bool
leads_by router f = is_some_so (λ (t : Target). ident_eq router t.router) f.target

abbrev pub leads_through : List SubnetRow → Ident → PortRow → FloatingRow → Bool
leads_through subnets router p f =
    is_some_so (λ (t : Target). ident_eq router t.router && reaches subnets (V4 t.fixed) p)
    f.target

abbrev pub used_by_floating : RowLists → Caller → UseRule → RouterRow → FloatingRow → Refusal
used_by_floating rows caller rule r f =
    InUse rule RouterKind r.id (told_user rows caller (Some (FloatingKind, f.id)))

abbrev pub floating_in_use : RowLists → Caller → RouterRow → PortRow → Option Refusal
floating_in_use rows caller r p =
    option_map (used_by_floating rows caller RouterInterfaceInUseByFloatingIp r)
    (find (leads_through rows.subnets r.id p) rows.floatings)

abbrev pub gateway_in_use : RowLists → Caller → RouterRow → Option Refusal
gateway_in_use rows caller r =
    option_map (used_by_floating rows caller RouterExternalGatewayInUseByFloatingIp r)
    (find (leads_by r.id) rows.floatings)

-- the uses of a gateway that goes, by the routes as they would stand
abbrev pub gateway_use : RowLists → Caller → RouterRow → List Hop → Option Gateway → Option Refusal
gateway_use rows caller r routes None = None
gateway_use rows caller r routes (Some g) = first_refusal (
    option_and_then (route_in_use rows caller r routes) (row_of (λ p. p.id) g.port rows.ports)
    ∷ gateway_in_use rows caller r
    ∷ [])

-- one of these floating addresses, of the network, has the port's address
abbrev pub already_leads : List FloatingRow → Ident → Aim → Option FloatingRow
already_leads floatings network aim =
    find (stands_for network aim.port.id (number aim.fixed.address)) floatings

abbrev pub used_aim : RowLists → Caller → Aim → FloatingRow → Refusal
used_aim rows caller aim f =
    InUse FloatingIpPortAlreadyAssociated PortKind aim.port.id
    (told_user rows caller (Some (FloatingKind, f.id)))

abbrev pub aim_in_use : RowLists → Caller → List FloatingRow → Ident → Aim → Option Refusal
aim_in_use rows caller floatings network aim =
    option_map (used_aim rows caller aim) (already_leads floatings network aim)
