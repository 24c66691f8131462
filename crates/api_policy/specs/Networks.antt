-- What is printed of a network (Networking API reference, Show network details).
use Rattle.std.specs.Prelude.{List, [], ◌∷◌, Bool, ◌&&◌, map, codes}
use Rattle.std.specs.List.{list_any, filter}
use Rattle.std.specs.Str.{bytes_eq}
use Rattle.net_addr.specs.Words.{Text}
use Rattle.api_types.specs.Ident.{Ident}
use Rattle.api_types.specs.Printed.{Tree, NamedTree, null, truth, number, word}
use Rattle.api_types.specs.RowLists.{RowLists}
use Rattle.api_types.specs.Sharing.{everyone, is_action}
use Rattle.api_types.specs.Table.{ident_eq}
use Rattle.api_types.specs.declared.call.Caller.{Caller}
use Rattle.api_types.specs.declared.network.NetworkRow.{NetworkRow}
use Rattle.api_types.specs.declared.network.Segment.{Segment}
use Rattle.api_types.specs.declared.network.Segment.TheVariants.{Flat, Local, Vlan, Vxlan}
use Rattle.api_types.specs.declared.policy.Action.{Action}
use Rattle.api_types.specs.declared.policy.Action.TheVariants.{External, Shared}
use Rattle.api_types.specs.declared.policy.PolicyRow.{PolicyRow}
use Rattle.api_types.specs.declared.subnet.SubnetRow.{SubnetRow}
use Rattle.api_policy.specs.Visibility.{sees_subnet}
use Rattle.api_policy.specs.Trees.{id_word, list_of}

-- a policy permits the action on the network to all projects
abbrev pub permits_all : Ident → Action → PolicyRow → Bool
permits_all network action p =
    ident_eq network p.object && (is_action action p.action && bytes_eq p.target everyone)

abbrev pub is_open : List PolicyRow → Ident → Action → Bool
is_open policies network action = list_any (permits_all network action) policies

-- the network's subnets that the caller sees
abbrev pub subnets_of : RowLists → Caller → Ident → List Ident
subnets_of rows caller network =
    map (λ (s : SubnetRow). s.id)
    (filter (λ (s : SubnetRow). ident_eq network s.network && sees_subnet rows caller s)
    rows.subnets)

abbrev pub type_word : Segment → Text
type_word Local = codes "local"
type_word (Flat physical) = codes "flat"
type_word (Vlan physical tag) = codes "vlan"
type_word (Vxlan n) = codes "vxlan"

abbrev pub physical_of : Segment → Tree
physical_of Local = null
physical_of (Flat physical) = word physical
physical_of (Vlan physical tag) = word physical
physical_of (Vxlan n) = null

abbrev pub number_of : Segment → Tree
number_of Local = null
number_of (Flat physical) = null
number_of (Vlan physical tag) = number tag
number_of (Vxlan n) = number n

-- in byte order of the names
abbrev pub network_members : RowLists → Caller → NetworkRow → List NamedTree
network_members rows caller n =
    (codes "admin_state_up", truth n.up)
    ∷ (codes "description", word n.description)
    ∷ (codes "id", id_word n.id)
    ∷ (codes "name", word n.name)
    ∷ (codes "project_id", word n.project)
    ∷ (codes "provider:network_type", word (type_word n.segment))
    ∷ (codes "provider:physical_network", physical_of n.segment)
    ∷ (codes "provider:segmentation_id", number_of n.segment)
    ∷ (codes "router:external", truth (is_open rows.policies n.id External))
    ∷ (codes "shared", truth (is_open rows.policies n.id Shared))
    ∷ (codes "status", word (codes "ACTIVE"))
    ∷ (codes "subnets", list_of id_word (subnets_of rows caller n.id))
    ∷ (codes "tenant_id", word n.project)
    ∷ []
