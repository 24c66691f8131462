-- What rows have that no other may have, as stretches; and tests of single rows.
use Rattle.std.specs.Prelude.{ℕ, ◌+◌, ◌*◌, ◌%◌, ◌^◌, ◌==◌, ◌&&◌, ◌||◌, ◌++◌, not, nat_lt, nat_le, length, cond, Bool, List, [], ◌∷◌, Option, Some, None, if◌then◌else◌, map, option_map}
use Rattle.std.specs.List.{list_any, list_all, filter_map}
use Rattle.std.specs.Str.{bytes_eq}
use Rattle.net_addr.specs.Words.{Text}
use Rattle.net_addr.specs.Addresses.{number}
use Rattle.net_addr.specs.Prefixes.{Prefix, last_address}
use Rattle.api_types.specs.Ident.{Ident}
use Rattle.api_types.specs.Table.{row_of, ident_eq}
use Rattle.api_types.specs.Lists.{stands_so, if_some, is_some_so, is_empty, is_one}
use Rattle.api_types.specs.RowLists.{RowLists}
use Rattle.api_types.specs.Owners.{is_interface, is_gateway, is_dhcp, is_router_port, is_port_of, is_dhcp_of, device_is, holds_in}
use Rattle.api_types.specs.Consistent.Numbered.{is_drawn}
use Rattle.api_types.specs.Consistent.Named.{is_registered}
use Rattle.api_types.specs.Consistent.InForm.{is_segment, is_group_of}
use Rattle.api_types.specs.Consistent.Carried.{is_bound}
use Rattle.api_types.specs.Consistent.Services.{wants_dhcp, holds_count, is_leased, is_named_gateway}
use Rattle.api_types.specs.Consistent.Hosts.{is_host_in}
use Rattle.api_types.specs.Consistent.Access.{may_be_there}
use Rattle.api_types.specs.Consistent.NextHops.{is_reached}
use Rattle.api_types.specs.declared.project.ProjectRow.{ProjectRow}
use Rattle.api_types.specs.declared.network.Segment.{Segment}
use Rattle.api_types.specs.declared.network.Segment.TheVariants.{Local, Flat, Vlan, Vxlan}
use Rattle.api_types.specs.declared.subnet.SubnetRow.{SubnetRow}
use Rattle.api_types.specs.declared.port.PortRow.{PortRow}
use Rattle.api_types.specs.declared.port.Fixed.{Fixed}
use Rattle.api_types.specs.declared.group.GroupRow.{GroupRow}
use Rattle.api_types.specs.declared.group.RuleRow.{RuleRow}
use Rattle.api_types.specs.declared.group.Direction.{Direction}
use Rattle.api_types.specs.declared.group.Direction.TheVariants.{Ingress, Egress}
use Rattle.api_types.specs.declared.group.Ethertype.{Ethertype}
use Rattle.api_types.specs.declared.group.Ethertype.TheVariants.{Ipv4, Ipv6}
use Rattle.api_types.specs.declared.router.RouterRow.{RouterRow}
use Rattle.api_types.specs.declared.router.Gateway.{Gateway}
use Rattle.api_types.specs.declared.floating.FloatingRow.{FloatingRow}
use Rattle.api_types.specs.declared.floating.Target.{Target}
use Rattle.api_types.specs.declared.policy.PolicyRow.{PolicyRow}
use Rattle.api_types.specs.declared.policy.Action.{Action}
use Rattle.api_types.specs.declared.policy.Action.TheVariants.{Shared, External}
use Rattle.api_types.specs.Consistent.Groups.{is_default_of}
use Rattle.api_clauses.specs.Groups.{port_grouped}
use Rattle.api_clauses.specs.Names.{subnet_named, port_named, rule_named, router_named, floating_named, policy_named}
use Rattle.api_clauses.specs.Forms.{subnet_formed, port_formed}
use Rattle.api_consistency.specs.Numbers.{id_number, mixed, version_group, single}
use Rattle.api_consistency.specs.declared.stretch.Stretch.{Stretch}

-- names, ordinals, counts and ids

abbrev pub is_in_place : ℕ → ProjectRow → Bool
is_in_place place p =
    (p.ordinal == place + 1)
    && (nat_lt p.count (2 ^ 62) && (nat_lt (place + 1) (2 ^ 32) && not (is_empty p.name)))

abbrev pub of_name : ProjectRow → Stretch
of_name p = single 0 (mixed 0 p.name)

abbrev pub of_id : Ident → Stretch
of_id i = single 0 (id_number i)

abbrev pub of_ids : RowLists → List Stretch
of_ids rows =
    ((((((map (λ r. of_id r.id) rows.networks ++ map (λ r. of_id r.id) rows.subnets)
    ++ map (λ r. of_id r.id) rows.ports) ++ map (λ r. of_id r.id) rows.groups)
    ++ map (λ r. of_id r.id) rows.rules) ++ map (λ r. of_id r.id) rows.routers)
    ++ map (λ r. of_id r.id) rows.floatings) ++ map (λ r. of_id r.id) rows.policies

abbrev pub are_all_drawn : RowLists → Bool
are_all_drawn rows =
    list_all (λ r. is_drawn rows.projects r.id) rows.networks
    && (list_all (λ r. is_drawn rows.projects r.id) rows.subnets
    && (list_all (λ r. is_drawn rows.projects r.id) rows.ports
    && (list_all (λ r. is_drawn rows.projects r.id) rows.groups
    && (list_all (λ r. is_drawn rows.projects r.id) rows.rules
    && (list_all (λ r. is_drawn rows.projects r.id) rows.routers
    && (list_all (λ r. is_drawn rows.projects r.id) rows.floatings
    && list_all (λ r. is_drawn rows.projects r.id) rows.policies))))))

-- names and forms

abbrev pub names_stand : RowLists → Bool
names_stand rows =
    list_all (λ r. is_registered rows.projects r.project) rows.networks
    && (list_all (subnet_named rows) rows.subnets
    && (list_all (port_named rows) rows.ports
    && (list_all (λ r. is_registered rows.projects r.project) rows.groups
    && (list_all (rule_named rows) rows.rules
    && (list_all (router_named rows) rows.routers
    && (list_all (floating_named rows) rows.floatings
    && list_all (policy_named rows) rows.policies))))))

abbrev pub are_in_form : RowLists → Bool
are_in_form rows =
    list_all (λ n. is_segment n.segment) rows.networks
    && (list_all (subnet_formed rows.networks) rows.subnets
    && (list_all (port_formed rows.networks) rows.ports
    && (list_all (λ r. is_group_of rows.groups r.project r.group) rows.rules
    && list_all (λ r. nat_le (length r.routes) 30) rows.routers)))

-- MACs and addresses in their network

abbrev pub of_mac : PortRow → Stretch
of_mac p = single (id_number p.network) p.mac

abbrev pub of_fixed : Ident → Fixed → Stretch
of_fixed network f = single (version_group (id_number network) f.address) (number f.address)

-- subnets in their network, and those that a router's port reaches

abbrev pub of_prefix : ℕ → Prefix → Ident → Stretch
of_prefix group p holder = record {
  group = version_group group p.base;
  first = number p.base;
  last = number (last_address p);
  holder = id_number holder;
}

abbrev pub of_subnet : SubnetRow → Stretch
of_subnet s = of_prefix (id_number s.network) s.prefix s.id

abbrev pub leg_of : List SubnetRow → PortRow → Fixed → Option Stretch
leg_of subnets p f =
    option_map (λ (s : SubnetRow). of_prefix (mixed 0 p.device % 2 ^ 96) s.prefix p.id)
    (row_of (λ s. s.id) f.subnet subnets)

abbrev pub legs_of : List SubnetRow → PortRow → List Stretch
legs_of subnets p = cond (is_router_port p.owner) (filter_map (leg_of subnets p) p.fixed) []

-- segments

abbrev pub of_segment : Segment → Option Stretch
of_segment Local = None
of_segment (Flat physical) = Some (single 0 (mixed 0 physical))
of_segment (Vlan physical tag) = Some (single (2 + tag) (mixed 0 physical))
of_segment (Vxlan n) = Some (single 1 n)

-- hosts

abbrev pub is_with : PortRow → RouterRow → Bool
is_with p r = is_some_so (bytes_eq p.host) r.host && is_port_of r p

abbrev pub is_placed : (Text → Segment → Bool) → RowLists → PortRow → Bool
is_placed carries rows p = not (is_bound p.vif)
    || (stands_so (λ n. n.id) p.network (λ n. carries p.host n.segment) rows.networks
    && (not (is_router_port p.owner) || list_any (is_with p) rows.routers))

-- the ports of services

abbrev pub of_dhcp : PortRow → Option Stretch
of_dhcp p = if is_dhcp p.owner then Some (single 0 (id_number p.network)) else None

abbrev pub leases_in : SubnetRow → PortRow → Bool
leases_in s p = is_dhcp_of s.network p && (holds_count s.id p == 1)

abbrev pub is_subnet_leased : List PortRow → SubnetRow → Bool
is_subnet_leased ports s = not s.dhcp || list_any (leases_in s) ports

abbrev pub serves_dhcp : List SubnetRow → PortRow → Bool
serves_dhcp subnets p =
    not (is_dhcp p.owner)
    || (wants_dhcp subnets p.network && (list_all (is_leased subnets) p.fixed && not p.secured))

abbrev pub is_its_gateway : PortRow → RouterRow → Bool
is_its_gateway p r =
    is_some_so (λ (g : Gateway). ident_eq g.port p.id) r.gateway && device_is p.device r.id

abbrev pub serves_router : List RouterRow → PortRow → Bool
serves_router routers p =
    not (is_router_port p.owner)
    || ((list_any (λ r. is_port_of r p) routers && not p.secured)
    && ((not (is_interface p.owner) || is_one p.fixed)
    && (not (is_gateway p.owner)
    || (not (is_empty p.fixed) && list_any (is_its_gateway p) routers))))

abbrev pub has_gateway : List PortRow → RouterRow → Bool
has_gateway ports r = if_some (λ g. list_any (is_named_gateway r g) ports) r.gateway

-- floating addresses

abbrev pub of_own_port : FloatingRow → Stretch
of_own_port f = single 0 (id_number f.own_port)

abbrev pub of_target : FloatingRow → Option Stretch
of_target f =
    option_map
    (λ (t : Target). single (id_number f.network) (id_number t.port * 2 ^ 32 + t.fixed)) f.target

abbrev pub is_interface_on : Ident → Ident → PortRow → Bool
is_interface_on router subnet q =
    is_interface q.owner && (device_is q.device router && holds_in subnet q)

-- groups and rules

abbrev pub of_default : GroupRow → Option Stretch
of_default g = if g.is_default then Some (single 0 (mixed 0 g.project)) else None

abbrev pub are_groups_used : RowLists → Bool
are_groups_used rows =
    list_all (λ p. list_any (is_default_of p.name) rows.groups) rows.projects
    && (list_all (port_grouped rows.groups) rows.ports
    && list_all (λ r. if_some (is_group_of rows.groups r.project) r.remote_group) rows.rules)

abbrev pub some_number : Option ℕ → ℕ
some_number None = 0
some_number (Some n) = 1 + n

abbrev pub group_number : Option Ident → ℕ
group_number None = 0
group_number (Some i) = 1 + id_number i

abbrev pub length_number : Option Prefix → ℕ
length_number None = 0
length_number (Some p) = 1 + p.len

abbrev pub base_number : Option Prefix → ℕ
base_number None = 0
base_number (Some p) = number p.base

abbrev pub kinds_number : Direction → Ethertype → ℕ
kinds_number Ingress Ipv4 = 0
kinds_number Ingress Ipv6 = 1
kinds_number Egress Ipv4 = 2
kinds_number Egress Ipv6 = 3

abbrev pub of_rule : RuleRow → Stretch
of_rule r =
    single (id_number r.group)
    (mixed 0
    (kinds_number r.direction r.ethertype ∷ some_number r.protocol ∷ some_number r.low
    ∷ some_number r.high ∷ length_number r.remote_prefix ∷ base_number r.remote_prefix
    ∷ group_number r.remote_group ∷ []))

-- policies

abbrev pub action_number : Action → ℕ
action_number Shared = 0
action_number External = 1

abbrev pub of_policy : PolicyRow → Stretch
of_policy p =
    single (id_number p.object) (mixed 0 (action_number p.action ∷ mixed 0 p.target ∷ []))

-- each row by itself

abbrev pub are_ports_sound : (Text → Segment → Bool) → RowLists → Bool
are_ports_sound carries rows =
    list_all (is_placed carries rows) rows.ports
    && ((list_all (serves_router rows.routers) rows.ports
    && list_all (has_gateway rows.ports) rows.routers)
    && (list_all (may_be_there rows.networks rows.policies) rows.ports
    && list_all (λ r. list_all (is_reached rows.subnets rows.ports r) r.routes) rows.routers))

abbrev pub are_rows_sound : (Text → Segment → Bool) → RowLists → Bool
are_rows_sound carries rows =
    names_stand rows
    && (are_in_form rows
    && (list_all (λ p. list_all (is_host_in rows.subnets p) p.fixed) rows.ports
    && are_ports_sound carries rows))
