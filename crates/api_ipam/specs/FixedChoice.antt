-- Which fixed addresses a port takes (Networking API v2.0, `fixed_ips`). A place in the list of
-- them has a subnet, and an address that is known, since it is named, held already or given by the
-- MAC address, or else a pool address that is to be chosen. What is known may break the rule of
-- `fixed_ips`, or be held by another port, and that is refused before a pool address is missed.
use Rattle.api_ipam.specs.Addresses.{least_free_address}
use Rattle.api_types.specs.HeldAddresses.{fixed_at}
use Rattle.api_types.specs.Consistent.InForm.{is_eui}
use Rattle.api_types.specs.Ident.{Ident}
use Rattle.api_types.specs.Lists.{if_some, is_some_so}
use Rattle.api_types.specs.Table.{ident_eq, row_of}
use Rattle.api_types.specs.declared.form.FixedAsked.{FixedAsked}
use Rattle.api_types.specs.declared.form.Given.TheVariants.{Absent, Is, Null}
use Rattle.api_types.specs.declared.form.Given.{Given}
use Rattle.api_types.specs.declared.port.Fixed.{Fixed}
use Rattle.api_types.specs.declared.port.PortRow.{PortRow}
use Rattle.api_types.specs.declared.subnet.SubnetRow.{SubnetRow}
use Rattle.net_addr.specs.Addresses.{addr_eq, is_v4}
use Rattle.net_addr.specs.Prefixes.{contains, eui, is_host_of}
use Rattle.net_addr.specs.declared.address.Addr.{Addr}
use Rattle.std.specs.List.{list_all, list_any}
use Rattle.std.specs.Option.{option_or}
use Rattle.std.specs.Prelude.{Bool, List, None, Option, Some, [], filter, filter_map, find, if◌then◌else◌, map, not, option_and_then, option_map, take, true, ℕ, ◌&&◌, ◌++◌, ◌+◌, ◌-◌, ◌||◌, ◌∷◌}
use Rattle.net_addr.specs.Words.{MacAddress}

-- a place in the list
pub record Place : Type 0 where
  pub subnet : SubnetRow
  pub known : Option Addr

abbrev pub known_addresses : List Place → List Addr
known_addresses places = filter_map (λ (l : Place). l.known) places

abbrev pub is_in : List Addr → Addr → Bool
is_in xs x = list_any (λ y. addr_eq y x) xs

abbrev pub are_different : List Addr → Bool
are_different [] = true
are_different (x ∷ xs) = not (is_in xs x) && are_different xs

abbrev pub addresses_of : List Fixed → List Addr
addresses_of fixed = map (λ (f : Fixed). f.address) fixed

-- the address that a MAC address gives in a subnet
abbrev pub eui_fixed : MacAddress → SubnetRow → Fixed
eui_fixed mac s = fixed_at s.id (eui s.prefix mac)

-- of a port whose MAC address changes: the new such addresses in place of the old ones
abbrev pub is_eui_of : MacAddress → Addr → SubnetRow → Bool
is_eui_of mac x s = is_eui s && addr_eq x (eui s.prefix mac)

abbrev pub renewed : MacAddress → MacAddress → Fixed → Option SubnetRow → Fixed
renewed old new f None = f
renewed old new f (Some s) = if is_eui_of old f.address s then eui_fixed new s else f

abbrev pub all_renewed : List SubnetRow → MacAddress → MacAddress → List Fixed → List Fixed
all_renewed subnets old new fixed =
    map (λ (f : Fixed). renewed old new f (row_of (λ s. s.id) f.subnet subnets)) fixed

-- where no addresses are asked for

-- the first subnet with a free pool address gives its least one; by which addresses are free
abbrev pub first_free : (Addr → Bool) → List SubnetRow → Option Fixed
first_free free [] = None
first_free free (s ∷ subnets) =
    option_or (option_map (fixed_at s.id) (least_free_address free s.pools))
    (first_free free subnets)

-- one of these subnets, where there are any
abbrev pub any_address : (Addr → Bool) → List SubnetRow → Option (List Fixed)
any_address free [] = Some []
any_address free (s ∷ subnets) = option_map (λ f. f ∷ []) (first_free free (s ∷ subnets))

-- the subnets of each version from whose pools addresses are chosen, and those in which the MAC
-- address gives one
abbrev pub is_pool_four : SubnetRow → Bool
is_pool_four s = is_v4 s.prefix.base && not (is_eui s)

abbrev pub is_pool_six : SubnetRow → Bool
is_pool_six s = not (is_v4 s.prefix.base) && not (is_eui s)

abbrev pub any_of_each : (Addr → Bool) → List SubnetRow → Option (List Fixed)
any_of_each free subnets =
    option_and_then
    (λ fours. option_map (λ sixes. fours ++ sixes) (any_address free (filter is_pool_six subnets)))
    (any_address free (filter is_pool_four subnets))

abbrev pub all_euis : MacAddress → List SubnetRow → List Fixed
all_euis mac subnets = map (eui_fixed mac) (filter is_eui subnets)

-- a list has at most five
abbrev pub one_if_any : (SubnetRow → Bool) → List SubnetRow → ℕ
one_if_any test subnets = if list_any test subnets then 1 else 0

abbrev pub first_euis : MacAddress → List SubnetRow → List Fixed
first_euis mac subnets =
    take (5 - (one_if_any is_pool_four subnets + one_if_any is_pool_six subnets))
    (all_euis mac subnets)

-- a gateway's port has one address of version 6
abbrev pub gateway_euis : MacAddress → List SubnetRow → List Fixed
gateway_euis mac subnets =
    if list_any is_pool_six subnets then [] else take 1 (all_euis mac subnets)

abbrev pub with_euis : (Addr → Bool) → List SubnetRow → List Fixed → Option (List Fixed)
with_euis free subnets euis = option_map (λ chosen. chosen ++ euis) (any_of_each free subnets)

-- where some are asked for

-- the subnet of an item: the one that it names, or the one that contains its address
abbrev pub subnet_for : List SubnetRow → Option Ident → Option Addr → Option SubnetRow
subnet_for subnets (Some i) address = row_of (λ s. s.id) i subnets
subnet_for subnets None (Some x) = find (λ (s : SubnetRow). contains s.prefix x) subnets
subnet_for subnets None None = None

abbrev pub item_subnet : List SubnetRow → FixedAsked → Option SubnetRow
item_subnet subnets item = subnet_for subnets item.subnet item.address

-- a named address is a host address, and where the MAC address gives one it is that
abbrev pub may_be_named : MacAddress → SubnetRow → Addr → Bool
may_be_named mac s x = is_host_of s.prefix x && (not (is_eui s) || addr_eq x (eui s.prefix mac))

abbrev pub is_placed : List SubnetRow → MacAddress → FixedAsked → Bool
is_placed subnets mac item =
    is_some_so (λ (s : SubnetRow). if_some (may_be_named mac s) item.address)
    (item_subnet subnets item)

abbrev pub named_addresses : List FixedAsked → List Addr
named_addresses items = filter_map (λ (item : FixedAsked). item.address) items

abbrev pub named_subnets : List FixedAsked → List Ident
named_subnets items = filter_map (λ (item : FixedAsked). item.subnet) items

-- an item without an address takes the port's first old one of the subnet that isn't in the list
-- yet, and otherwise the one that the MAC address gives, where it gives one
abbrev pub old_address : List Fixed → List Addr → SubnetRow → Option Addr
old_address old taken s =
    option_map (λ (f : Fixed). f.address)
    (find (λ (f : Fixed). ident_eq s.id f.subnet && not (is_in taken f.address)) old)

abbrev pub eui_if_any : MacAddress → SubnetRow → Option Addr
eui_if_any mac s = if is_eui s then Some (eui s.prefix mac) else None

abbrev pub known_at : MacAddress → List Fixed → List Addr → Option Addr → SubnetRow → Option Addr
known_at mac old taken (Some x) s = Some x
known_at mac old taken None s = option_or (old_address old taken s) (eui_if_any mac s)

-- the items, each with its subnet
abbrev pub wish_for : FixedAsked → SubnetRow → Place
wish_for item s = record { subnet = s; known = item.address }

abbrev pub wishes : List SubnetRow → List FixedAsked → List Place
wishes subnets items =
    filter_map (λ (item : FixedAsked). option_map (wish_for item) (item_subnet subnets item)) items

-- in turn, with what is named anywhere or was taken before as taken
abbrev pub places : MacAddress → List Fixed → List Addr → List Place → List Place
places mac old taken [] = []
places mac old taken (w ∷ ws) = elim (known_at mac old taken w.known w.subnet) [
  | None ↦ w ∷ places mac old taken ws
  | Some x ↦ record { subnet = w.subnet; known = Some x } ∷ places mac old (x ∷ taken) ws
]

abbrev pub asked_places : List SubnetRow → MacAddress → List Fixed → List FixedAsked → List Place
asked_places subnets mac old items = places mac old (named_addresses items) (wishes subnets items)

-- the rule of `fixed_ips`: each item has its place, and no address is known twice
abbrev pub are_placed : List SubnetRow → MacAddress → List Fixed → List FixedAsked → Bool
are_placed subnets mac old items =
    list_all (is_placed subnets mac) items
    && are_different (known_addresses (asked_places subnets mac old items))

-- then pool addresses are chosen in turn, each the least free one of its subnet that isn't in the
-- list
abbrev pub filled_at : (Addr → Bool) → List Addr → Option Addr → SubnetRow → Option Addr
filled_at free taken (Some x) s = Some x
filled_at free taken None s = least_free_address (λ x. free x && not (is_in taken x)) s.pools

abbrev pub filled : (Addr → Bool) → List Addr → List Place → Option (List Fixed)
filled free taken [] = Some []
filled free taken (l ∷ ls) = elim (filled_at free taken l.known l.subnet) [
  | None ↦ None
  | Some x ↦ option_map (λ fs. fixed_at l.subnet.id x ∷ fs) (filled free (x ∷ taken) ls)
]

abbrev pub all_filled : (Addr → Bool) → List Place → Option (List Fixed)
all_filled free ls = filled free (known_addresses ls) ls

-- what is known of the addresses of a new port, and all of them, by the network's subnets; none
-- where a pool address is missed

abbrev pub first_known : List SubnetRow → MacAddress → Given (List FixedAsked) → List Addr
first_known subnets mac Absent = addresses_of (first_euis mac subnets)
first_known subnets mac Null = addresses_of (first_euis mac subnets)
first_known subnets mac (Is items) = known_addresses (asked_places subnets mac [] items)

abbrev pub first_addresses : (Addr → Bool) → List SubnetRow → MacAddress → Given (List FixedAsked)
    → Option (List Fixed)
first_addresses free subnets mac Absent = with_euis free subnets (first_euis mac subnets)
first_addresses free subnets mac Null = with_euis free subnets (first_euis mac subnets)
first_addresses free subnets mac (Is items) = all_filled free (asked_places subnets mac [] items)

-- of a port that is changed, by the MAC address that it will have

abbrev pub old_renewed : List SubnetRow → PortRow → MacAddress → List Fixed
old_renewed subnets p mac = all_renewed subnets p.mac mac p.fixed

abbrev pub next_known : List SubnetRow → PortRow → MacAddress → Given (List FixedAsked) → List Addr
next_known subnets p mac Absent = addresses_of (old_renewed subnets p mac)
next_known subnets p mac Null = addresses_of (old_renewed subnets p mac)
next_known subnets p mac (Is items) =
    known_addresses (asked_places subnets mac (old_renewed subnets p mac) items)

abbrev pub next_addresses : (Addr → Bool) → List SubnetRow → PortRow → MacAddress
    → Given (List FixedAsked) → Option (List Fixed)
next_addresses free subnets p mac Absent = Some (old_renewed subnets p mac)
next_addresses free subnets p mac Null = Some (old_renewed subnets p mac)
next_addresses free subnets p mac (Is items) =
    all_filled free (asked_places subnets mac (old_renewed subnets p mac) items)

-- of a gateway's port; none on a network without a subnet
abbrev pub gateway_addresses : (Addr → Bool) → List SubnetRow → MacAddress → Option (List Fixed)
gateway_addresses free [] mac = None
gateway_addresses free (s ∷ subnets) mac =
    with_euis free (s ∷ subnets) (gateway_euis mac (s ∷ subnets))

-- of a floating address's port
abbrev pub floating_address : (Addr → Bool) → List SubnetRow → Option Fixed
floating_address free subnets = first_free free (filter is_pool_four subnets)
