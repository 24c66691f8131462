-- Which ports need which policies: what was permitted to a port has to be permitted by the
-- policies as they would stand.
use Rattle.api_policy.specs.Served.{HeldPort, held_port}
use Rattle.api_types.specs.Lists.{is_empty, is_some_so}
use Rattle.api_types.specs.RowLists.{RowLists}
use Rattle.api_types.specs.Sharing.{is_external_to, is_shared_with}
use Rattle.api_types.specs.Table.{ident_eq}
use Rattle.api_types.specs.declared.network.NetworkRow.{NetworkRow}
use Rattle.api_types.specs.declared.policy.PolicyRow.{PolicyRow}
use Rattle.api_types.specs.declared.port.PortRow.{PortRow}
use Rattle.std.specs.Prelude.{Bool, List, Option, bytes_eq, find, not, ◌&&◌, ◌||◌}

-- the port is on the network by sharing alone, and it would be shared with its project no more
abbrev pub is_unshared : List PolicyRow → NetworkRow → HeldPort → Bool
is_unshared policies n p =
    not p.by_admin && not (is_empty p.project) && not (bytes_eq p.project n.project)
    && not (is_shared_with policies n.id p.project)

-- the port, which has the empty project, serves one to which the network would be external no more
abbrev pub is_unserved : List PolicyRow → NetworkRow → HeldPort → Bool
is_unserved policies n p =
    is_empty p.project
    && is_some_so (λ project. not (is_external_to policies n.id project)) p.served

-- by what a port on a network is told of it to those who hold the network
abbrev pub is_forsaken : RowLists → List PolicyRow → NetworkRow → PortRow → Bool
is_forsaken rows policies n p =
    ident_eq n.id p.network
    && (is_unshared policies n (held_port rows p) || is_unserved policies n (held_port rows p))

-- the first port that needs a policy which these policies lack
abbrev pub policy_user : RowLists → List PolicyRow → NetworkRow → Option PortRow
policy_user rows policies n = find (is_forsaken rows policies n) rows.ports
