-- The rules of a floating address's attributes that speak of rows, in the order in which they are
-- tried. Each is looked at where the rows of which it speaks are there and seen, and names its
-- attribute.
use Rattle.api_types.specs.Association.{fixed_for}
use Rattle.api_types.specs.HeldAddresses.{subnets_on}
use Rattle.api_types.specs.Owners.{is_service}
use Rattle.api_types.specs.Refusing.{first_refusal, when}
use Rattle.api_types.specs.Ident.{Ident}
use Rattle.api_types.specs.RowLists.{RowLists}
use Rattle.api_types.specs.Sharing.{is_external_to}
use Rattle.api_types.specs.declared.network.NetworkRow.{NetworkRow}
use Rattle.api_types.specs.declared.port.PortRow.{PortRow}
use Rattle.api_types.specs.declared.refusal.Refusal.TheVariants.{Invalid}
use Rattle.api_types.specs.declared.refusal.Refusal.{Refusal}
use Rattle.api_types.specs.declared.subnet.SubnetRow.{SubnetRow}
use Rattle.net_addr.specs.Prefixes.{is_host_of}
use Rattle.net_addr.specs.declared.address.Addr.TheVariants.{V4 as Four}
use Rattle.net_addr.specs.declared.address.Addr.{Addr}
use Rattle.std.specs.Prelude.{None, Option, Some, [], bytes_eq, codes, find, is_none, not, ℕ, ◌||◌, ◌∷◌}
use Rattle.net_addr.specs.Words.{Text}

-- `floating_network_id` is external to the project
abbrev pub bad_outside : RowLists → Text → NetworkRow → Option Refusal
bad_outside rows owner n =
    when (not (is_external_to rows.policies n.id owner)) (Invalid (codes "floating_network_id"))

-- the subnet of the network in which the named address is a host address
abbrev pub subnet_with : RowLists → Ident → Addr → Option SubnetRow
subnet_with rows network x =
    find (λ (s : SubnetRow). is_host_of s.prefix x) (subnets_on rows.subnets network)

-- `floating_ip_address`
abbrev pub bad_address : RowLists → Option ℕ → NetworkRow → Option Refusal
bad_address rows None n = None
bad_address rows (Some x) n =
    when (is_none (subnet_with rows n.id (Four x))) (Invalid (codes "floating_ip_address"))

-- the rules of `port_id` and `fixed_ip_address`: the port is the project's and no service's, and
-- has the address
abbrev pub bad_aim : Text → Option ℕ → PortRow → Option Refusal
bad_aim project address p = first_refusal (
    when (not (bytes_eq p.project project) || is_service p.owner) (Invalid (codes "port_id"))
    ∷ when (is_none (fixed_for address p.fixed)) (Invalid (codes "fixed_ip_address"))
    ∷ [])
