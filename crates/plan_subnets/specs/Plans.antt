-- What is refused of calls on subnets, part by part.
use Rattle.api_policy.specs.Permits.{network_owner}
use Rattle.api_policy.specs.Seen.{network_seen}
use Rattle.api_policy.specs.Uses.{old_gateway_in_use}
use Rattle.api_ipam.specs.MacChoice.{mac_if}
use Rattle.api_types.specs.Given.{value_of}
use Rattle.api_types.specs.Ident.{Ident}
use Rattle.api_types.specs.Refusing.{first_refusal, when}
use Rattle.api_types.specs.RowLists.{RowLists}
use Rattle.api_types.specs.declared.call.Caller.{Caller}
use Rattle.api_types.specs.declared.form.SubnetForm.{SubnetForm}
use Rattle.api_types.specs.declared.port.PortRow.{PortRow}
use Rattle.api_types.specs.declared.refusal.Refusal.TheVariants.{CountersSpent, PoolsSpent}
use Rattle.api_types.specs.declared.refusal.Refusal.{Refusal}
use Rattle.api_types.specs.declared.subnet.SubnetRow.{SubnetRow}
use Rattle.plan_subnets.specs.DhcpUpkeep.{dhcp_address, makes_dhcp_port}
use Rattle.plan_subnets.specs.SubnetCalls.{gateway_asked, pools_asked, prefix_asked}
use Rattle.plan_subnets.specs.SubnetRules.{bad_cidr, bad_dhcp, bad_parts, bad_subnet, bad_versions}
use Rattle.std.specs.Prelude.{Bool, List, Option, [], is_none, option_and_then, true, ◌∷◌}

-- of a new subnet, before its network is looked for
abbrev pub body_refusal : RowLists → Caller → SubnetForm → Option Refusal
body_refusal rows caller form = first_refusal (
    bad_parts form
    ∷ option_and_then (bad_cidr rows (prefix_asked form))
    (network_seen rows caller (value_of form.network_id))
    ∷ bad_subnet (prefix_asked form) (gateway_asked form) (pools_asked form)
    ∷ [])

-- of a subnet that begins to be leased: there has to be an address for the DHCP port, and a MAC
-- address where that is made
abbrev pub lease_refusal : List PortRow → Ident → Bool → SubnetRow → Option Refusal
lease_refusal ports network begins s = first_refusal (
    when (is_none (dhcp_address ports network begins s)) (PoolsSpent network)
    ∷ when (is_none (mac_if (makes_dhcp_port ports network begins) ports network)) CountersSpent
    ∷ [])

-- what the rules alone forbid of a change
abbrev pub change_refusal : SubnetForm → SubnetRow → SubnetRow → Option Refusal
change_refusal form old new = first_refusal (
    bad_versions old.prefix.base form
    ∷ bad_subnet new.prefix new.gateway new.pools
    ∷ bad_dhcp form old
    ∷ [])

-- what the policy and the use of the gateway forbid of it
abbrev pub standing_refusal : RowLists → Caller → SubnetRow → SubnetRow → Option Refusal
standing_refusal rows caller old new =
    first_refusal
    (network_owner rows caller true old.network ∷ old_gateway_in_use rows caller old new ∷ [])
