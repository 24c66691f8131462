-- The rules of policy, by which some calls are for administrators or owners alone. Administrators
-- meet all of them.
use Rattle.api_policy.specs.Visibility.{is_own, owns_network, sees_port, uses_network}
use Rattle.api_types.specs.Refusing.{when}
use Rattle.api_types.specs.Ident.{Ident}
use Rattle.api_types.specs.RowLists.{RowLists}
use Rattle.api_types.specs.declared.call.Caller.{Caller}
use Rattle.api_types.specs.declared.port.PortRow.{PortRow}
use Rattle.api_types.specs.declared.refusal.PolicyRule.TheVariants.{AdminOnly, NetworkAccess, NetworkOwner, OwnerOnly, PortDelete}
use Rattle.api_types.specs.declared.refusal.Refusal.TheVariants.{Forbidden}
use Rattle.api_types.specs.declared.refusal.Refusal.{Refusal}
use Rattle.std.specs.Prelude.{Bool, Option, not, ◌&&◌, ◌||◌}
use Rattle.net_addr.specs.Words.{Text}

-- whether a call breaks a rule

-- it asks for what is for administrators alone
abbrev pub breaks_admin_only : Caller → Bool → Bool
breaks_admin_only caller needed = needed && not caller.admin

-- it needs a row that is another project's
abbrev pub breaks_owner_only : Caller → Text → Bool
breaks_owner_only caller project = not (is_own caller project)

-- it asks for what is for the network's owner alone
abbrev pub breaks_network_owner : RowLists → Caller → Bool → Ident → Bool
breaks_network_owner rows caller needed network =
    needed && not (caller.admin || owns_network rows caller.project network)

-- it needs a network that is neither its project's nor shared with it
abbrev pub breaks_network_access : RowLists → Caller → Ident → Bool
breaks_network_access rows caller network =
    not (caller.admin || uses_network rows caller.project network)

-- it takes out a port of which neither it nor its network is the project's
abbrev pub breaks_port_delete : RowLists → Caller → PortRow → Bool
breaks_port_delete rows caller p = not (sees_port rows caller p)

-- by which rule a call is refused

abbrev pub admin_only : Caller → Bool → Option Refusal
admin_only caller needed = when (breaks_admin_only caller needed) (Forbidden AdminOnly)

abbrev pub owner_only : Caller → Text → Option Refusal
owner_only caller project = when (breaks_owner_only caller project) (Forbidden OwnerOnly)

abbrev pub network_owner : RowLists → Caller → Bool → Ident → Option Refusal
network_owner rows caller needed network =
    when (breaks_network_owner rows caller needed network) (Forbidden NetworkOwner)

abbrev pub network_access : RowLists → Caller → Ident → Option Refusal
network_access rows caller network =
    when (breaks_network_access rows caller network) (Forbidden NetworkAccess)

abbrev pub port_delete : RowLists → Caller → PortRow → Option Refusal
port_delete rows caller p = when (breaks_port_delete rows caller p) (Forbidden PortDelete)
