-- The names by which lists are filtered (OpenStack API reference, Networking API v2.0).
use Rattle.std.specs.Prelude.{Bool, List, [], ◌∷◌, ◌++◌, codes}
use Rattle.std.specs.List.{list_any}
use Rattle.std.specs.Str.{bytes_eq}
use Rattle.net_addr.specs.Words.{Text}
use Rattle.api_types.specs.declared.kind.Kind.{Kind}
use Rattle.api_types.specs.declared.kind.Kind.TheVariants.{Project, Network, Subnet, Port, Group, Rule, Router, Floating, Policy}

-- the names for rows of each kind
abbrev pub own_filters : Kind → List Text
own_filters Project = []
own_filters Network =
    codes "name" ∷ codes "admin_state_up" ∷ codes "shared" ∷ codes "router:external"
    ∷ codes "provider:network_type"
    ∷ codes "provider:physical_network" ∷ codes "provider:segmentation_id" ∷ []
own_filters Subnet =
    codes "name" ∷ codes "network_id" ∷ codes "ip_version" ∷ codes "cidr" ∷ codes "gateway_ip"
    ∷ codes "enable_dhcp"
    ∷ codes "ipv6_address_mode" ∷ codes "ipv6_ra_mode" ∷ []
own_filters Port =
    codes "name" ∷ codes "admin_state_up" ∷ codes "network_id" ∷ codes "mac_address"
    ∷ codes "device_id"
    ∷ codes "device_owner" ∷ codes "binding:host_id" ∷ []
own_filters Group = codes "name" ∷ []
own_filters Rule =
    codes "security_group_id" ∷ codes "direction" ∷ codes "ethertype" ∷ codes "protocol"
    ∷ codes "remote_ip_prefix"
    ∷ codes "remote_group_id" ∷ []
own_filters Router = codes "name" ∷ codes "admin_state_up" ∷ []
own_filters Floating =
    codes "floating_network_id" ∷ codes "floating_ip_address" ∷ codes "port_id" ∷ []
own_filters Policy =
    codes "object_type" ∷ codes "object_id" ∷ codes "action" ∷ codes "target_tenant" ∷ []

-- the names for rows of every kind
abbrev pub common_filters : List Text
common_filters = codes "id" ∷ codes "project_id" ∷ codes "tenant_id" ∷ []

-- the name is one of some
abbrev pub is_among : List Text → Text → Bool
is_among names name = list_any (λ n. bytes_eq n name) names

-- rows of the kind are filtered by the name
unfoldable pub is_filter : Kind → Text → Bool
is_filter kind name = is_among (common_filters ++ own_filters kind) name
