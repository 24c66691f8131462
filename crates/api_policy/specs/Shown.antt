-- What a caller is shown of a row: all that is printed of it, without what is for administrators
-- alone, and cut to the fields that are asked for (Networking API reference, fields; its policies
-- on provider attributes and bindings).
use Rattle.std.specs.Prelude.{List, Bool, not, ◌&&◌, ◌||◌, Option, None, codes, length, option_map, ◌==◌}
use Rattle.std.specs.List.{list_any, filter}
use Rattle.std.specs.Str.{bytes_eq}
use Rattle.net_addr.specs.Words.{Text}
use Rattle.api_types.specs.Ident.{Ident}
use Rattle.api_types.specs.Printed.{NamedTree, ShownRow}
use Rattle.api_types.specs.RowLists.{RowLists}
use Rattle.api_types.specs.Table.{row_of}
use Rattle.api_types.specs.declared.call.Caller.{Caller}
use Rattle.api_types.specs.declared.kind.Kind.{Kind}
use Rattle.api_types.specs.declared.kind.Kind.TheVariants.{Floating, Group, Network, Policy, Port, Project, Router, Rule, Subnet}
use Rattle.api_policy.specs.Floatings.{floating_members}
use Rattle.api_policy.specs.Groups.{group_members, rule_members}
use Rattle.api_policy.specs.Networks.{network_members}
use Rattle.api_policy.specs.Policies.{policy_members}
use Rattle.api_policy.specs.Ports.{port_members}
use Rattle.api_policy.specs.Routers.{router_members}
use Rattle.api_policy.specs.Subnets.{subnet_members}

abbrev pub is_for_admins : Text → Bool
is_for_admins name =
    bytes_eq name (codes "binding:host_id") || bytes_eq name (codes "binding:vif_type")
    || bytes_eq name (codes "provider:network_type")
    || bytes_eq name (codes "provider:physical_network")
    || bytes_eq name (codes "provider:segmentation_id")

abbrev pub is_told : Bool → Text → Bool
is_told admin name = admin || not (is_for_admins name)

-- where no field is asked for, all are kept
abbrev pub is_asked : List Text → Text → Bool
is_asked fields name = (length fields == 0) || list_any (bytes_eq name) fields

abbrev pub shown_members : Bool → List Text → List NamedTree → List NamedTree
shown_members admin fields members =
    filter (λ (m : NamedTree). is_told admin m.0 && is_asked fields m.0) members

abbrev pub shown_as : Kind → Bool → List Text → List NamedTree → ShownRow
shown_as kind admin fields members =
    record { kind = kind; members = shown_members admin fields members }

-- of a row with this id; a project is no row that is shown
abbrev pub shown_at : RowLists → Caller → Kind → Ident → List Text → Option ShownRow
shown_at rows caller Project i fields = None
shown_at rows caller Network i fields =
    option_map (λ r. shown_as Network caller.admin fields (network_members rows caller r))
    (row_of (λ r. r.id) i rows.networks)
shown_at rows caller Subnet i fields =
    option_map (λ r. shown_as Subnet caller.admin fields (subnet_members r))
    (row_of (λ r. r.id) i rows.subnets)
shown_at rows caller Port i fields =
    option_map (λ r. shown_as Port caller.admin fields (port_members rows r))
    (row_of (λ r. r.id) i rows.ports)
shown_at rows caller Group i fields =
    option_map (λ r. shown_as Group caller.admin fields (group_members rows r))
    (row_of (λ r. r.id) i rows.groups)
shown_at rows caller Rule i fields =
    option_map (λ r. shown_as Rule caller.admin fields (rule_members r))
    (row_of (λ r. r.id) i rows.rules)
shown_at rows caller Router i fields =
    option_map (λ r. shown_as Router caller.admin fields (router_members rows r))
    (row_of (λ r. r.id) i rows.routers)
shown_at rows caller Floating i fields =
    option_map (λ r. shown_as Floating caller.admin fields (floating_members r))
    (row_of (λ r. r.id) i rows.floatings)
shown_at rows caller Policy i fields =
    option_map (λ r. shown_as Policy caller.admin fields (policy_members r))
    (row_of (λ r. r.id) i rows.policies)
