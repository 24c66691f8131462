-- The place of an item, and addresses of places in turn, by which addresses can't be given.
use Rattle.api_ipam.specs.Addresses.{least_free_address}
use Rattle.api_ipam.specs.FixedChoice.{Place, known_at}
use Rattle.api_types.specs.HeldAddresses.{fixed_at}
use Rattle.api_types.specs.declared.form.FixedAsked.{FixedAsked}
use Rattle.api_types.specs.declared.port.Fixed.{Fixed}
use Rattle.api_types.specs.declared.subnet.SubnetRow.{SubnetRow}
use Rattle.net_addr.specs.Addresses.{addr_eq}
use Rattle.net_addr.specs.declared.address.Addr.{Addr}
use Rattle.std.specs.Prelude.{Bool, List, None, Option, Some, [], not, option_map, ◌||◌, ◌∷◌}
use Rattle.net_addr.specs.Words.{MacAddress}

-- an item with a subnet has its place in it
abbrev pub place_for : MacAddress → List Fixed → List Addr → FixedAsked → Option SubnetRow
    → List Place
place_for mac old taken item None = []
place_for mac old taken item (Some s) =
    record { subnet = s; known = known_at mac old taken item.address s } ∷ []

abbrev pub given_at : (Addr → Bool) → Option Addr → SubnetRow → Option Addr
given_at held (Some x) s = Some x
given_at held None s = least_free_address (λ x. not (held x)) s.pools

-- what is given can't be given again
abbrev pub given_in_turn : (Addr → Bool) → List Place → Option (List Fixed)
given_in_turn held [] = Some []
given_in_turn held (l ∷ ls) = elim (given_at held l.known l.subnet) [
  | None ↦ None
  | Some x ↦
      option_map (λ fs. fixed_at l.subnet.id x ∷ fs)
      (given_in_turn (λ y. held y || addr_eq x y) ls)
]
