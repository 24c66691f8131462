-- The rules of a port's attributes that speak of rows, in the order in which they are tried. Each
-- is looked at where the rows of which it speaks are there and seen, and names its attribute.
use Rattle.api_ipam.specs.FixedChoice.{are_placed, named_subnets}
use Rattle.api_policy.specs.Seen.{subnet_seen}
use Rattle.api_types.specs.Refusing.{first_refusal, when}
use Rattle.api_types.specs.Ident.{Ident}
use Rattle.api_types.specs.Lists.{is_empty}
use Rattle.api_types.specs.RowLists.{RowLists}
use Rattle.api_types.specs.declared.call.Caller.{Caller}
use Rattle.api_types.specs.declared.form.FixedAsked.{FixedAsked}
use Rattle.api_types.specs.declared.port.Fixed.{Fixed}
use Rattle.api_types.specs.declared.refusal.Refusal.TheVariants.{Invalid}
use Rattle.api_types.specs.declared.refusal.Refusal.{Refusal}
use Rattle.api_types.specs.declared.subnet.SubnetRow.{SubnetRow}
use Rattle.std.specs.List.{list_all}
use Rattle.std.specs.Prelude.{Bool, List, Option, Some, [], codes, is_some, not, ◌&&◌, ◌∷◌}
use Rattle.net_addr.specs.Words.{MacAddress}

-- `fixed_ips`, where the subnets that are named are seen
abbrev pub is_subnet_seen : RowLists → Caller → Ident → Bool
is_subnet_seen rows caller i = is_some (subnet_seen rows caller (Some i))

abbrev pub bad_fixed : RowLists → Caller → List SubnetRow → MacAddress → List Fixed
    → List FixedAsked → Option Refusal
bad_fixed rows caller subnets mac old asked =
    when
    (list_all (is_subnet_seen rows caller) (named_subnets asked)
    && not (are_placed subnets mac old asked)) (Invalid (codes "fixed_ips"))

-- a port without port security has no groups and no pairs
abbrev pub bad_bare : {G P : Type 0} → Bool → List G → List P → Option Refusal
bad_bare secured groups pairs = first_refusal (
    when (not secured && not (is_empty groups)) (Invalid (codes "security_groups"))
    ∷ when (not secured && not (is_empty pairs)) (Invalid (codes "allowed_address_pairs"))
    ∷ [])
