-- The addresses of a port that is made or changed, or why there are none: a rule of `fixed_ips` is
-- broken, another port holds one of them, or a pool address is missed.
use Rattle.api_ipam.specs.FixedChoice.{addresses_of, are_placed, first_addresses, first_known, floating_address, gateway_addresses, gateway_euis, next_addresses, next_known, old_renewed}
use Rattle.api_ipam.specs.declared.choosing.IpamRefusal.TheVariants.{AddressInUse, BadFixed, OutOfMemory, PoolsSpent}
use Rattle.api_ipam.specs.declared.choosing.IpamRefusal.{IpamRefusal}
use Rattle.api_ipam.specs.declared.choosing.Wanted.TheVariants.{Floating, Free, Gateway, These}
use Rattle.api_ipam.specs.declared.choosing.Wanted.{Wanted}
use Rattle.api_types.specs.HeldAddresses.{holds_address, is_address_held, is_held_by_other, subnets_on}
use Rattle.api_types.specs.Ident.{Ident}
use Rattle.api_types.specs.RowLists.{RowLists}
use Rattle.api_types.specs.declared.form.FixedAsked.{FixedAsked}
use Rattle.api_types.specs.declared.form.Given.TheVariants.{Absent, Is}
use Rattle.api_types.specs.declared.form.Given.{Given}
use Rattle.api_types.specs.declared.port.Fixed.{Fixed}
use Rattle.api_types.specs.declared.port.PortRow.{PortRow}
use Rattle.api_types.specs.declared.subnet.SubnetRow.{SubnetRow}
use Rattle.net_addr.specs.declared.address.Addr.{Addr}
use Rattle.std.specs.Prelude.{Bool, Err, List, None, Ok, Option, Result, Some, [], false, find, not, option_map, true, ◌∷◌, ◌⊎◌, ◌≡◌}
use Rattle.net_addr.specs.Words.{MacAddress}

-- the port that is changed holds its first old address; a new one has none
abbrev pub holder : List PortRow → Ident → List Fixed → Option PortRow
holder ports network [] = None
holder ports network (f ∷ fs) = find (holds_address network f.address) ports

abbrev pub held_by : List PortRow → Ident → Option PortRow → Addr → Bool
held_by ports network None x = is_address_held ports network x
held_by ports network (Some p) x = is_held_by_other ports p x

-- its old addresses, by the MAC address that it will have
abbrev pub old_of : List SubnetRow → MacAddress → Option PortRow → List Fixed
old_of subnets mac None = []
old_of subnets mac (Some p) = old_renewed subnets p mac

-- whether what is wanted meets the rule of `fixed_ips`
abbrev pub is_placed_so : List SubnetRow → MacAddress → Option PortRow → Wanted → Bool
is_placed_so subnets mac port Free = true
is_placed_so subnets mac port Gateway = true
is_placed_so subnets mac port Floating = true
is_placed_so subnets mac port (These items) =
    are_placed subnets mac (old_of subnets mac port) items

abbrev pub known_given : List SubnetRow → MacAddress → Option PortRow → Given (List FixedAsked)
    → List Addr
known_given subnets mac None asked = first_known subnets mac asked
known_given subnets mac (Some p) asked = next_known subnets p mac asked

abbrev pub given_fixed : (Addr → Bool) → List SubnetRow → MacAddress → Option PortRow
    → Given (List FixedAsked) → Option (List Fixed)
given_fixed free subnets mac None asked = first_addresses free subnets mac asked
given_fixed free subnets mac (Some p) asked = next_addresses free subnets p mac asked

-- what is known of its addresses before pool addresses are chosen
abbrev pub known_so : List SubnetRow → MacAddress → Option PortRow → Wanted → List Addr
known_so subnets mac port Free = known_given subnets mac port Absent
known_so subnets mac port Gateway = addresses_of (gateway_euis mac subnets)
known_so subnets mac port Floating = []
known_so subnets mac port (These items) = known_given subnets mac port (Is items)

abbrev pub fixed_so : (Addr → Bool) → List SubnetRow → MacAddress → Option PortRow → Wanted
    → Option (List Fixed)
fixed_so free subnets mac port Free = given_fixed free subnets mac port Absent
fixed_so free subnets mac port Gateway = gateway_addresses free subnets mac
fixed_so free subnets mac port Floating = option_map (λ f. f ∷ []) (floating_address free subnets)
fixed_so free subnets mac port (These items) = given_fixed free subnets mac port (Is items)

abbrev pub choice_of : Ident → Bool → Option Addr → Option (List Fixed)
    → Result (List Fixed) IpamRefusal
choice_of network placed taken fixed = elim placed [
  | true ↦ elim taken [
    | Some x ↦ Err (AddressInUse x)
    | None ↦ elim fixed [ Some fs ↦ Ok fs | None ↦ Err (PoolsSpent network) ]
  ]
  | false ↦ Err BadFixed
]

abbrev pub chosen_for : List PortRow → List SubnetRow → Ident → MacAddress → Option PortRow
    → Wanted → Result (List Fixed) IpamRefusal
chosen_for ports subnets network mac port wanted =
    choice_of network (is_placed_so subnets mac port wanted)
    (find (held_by ports network port) (known_so subnets mac port wanted))
    (fixed_so (λ x. not (held_by ports network port x)) subnets mac port wanted)

abbrev pub chosen : RowLists → Ident → MacAddress → Wanted → List Fixed
    → Result (List Fixed) IpamRefusal
chosen rows network mac wanted old =
    chosen_for rows.ports (subnets_on rows.subnets network) network mac
    (holder rows.ports network old) wanted

-- the refusal is the choice's, or memory could not be had
abbrev pub IsRefusalOf : Result (List Fixed) IpamRefusal → IpamRefusal → Type 0
IsRefusalOf choice refusal = (refusal ≡ OutOfMemory) ⊎ (choice ≡ Err refusal)
