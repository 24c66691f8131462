-- Ids and addresses, and the items of lists (OpenStack API reference, Networking API v2.0).
use Rattle.std.specs.Prelude.{ℕ, ◌||◌, ◌==◌, ◌&&◌, not, Bool, nat_le, [], ◌∷◌, Option, is_some, option_map, codes}
use Rattle.net_addr.specs.Words.{MacAddress}
use Rattle.serde_json.specs.Data.{Data}
use Rattle.serde_json.specs.Find.{as_bool}
use Rattle.net_addr.specs.Addresses.{addr_eq, number, same_version}
use Rattle.net_addr.specs.Macs.{is_unicast}
use Rattle.net_addr.specs.Prefixes.{Prefix, Span, prefix_of, is_exact}
use Rattle.net_addr.specs.declared.address.Addr.{Addr}
use Rattle.api_types.specs.Ident.{Ident}
use Rattle.api_types.specs.Table.{ident_eq}
use Rattle.api_types.specs.declared.form.FixedAsked.{FixedAsked}
use Rattle.api_types.specs.declared.form.GatewayAsked.{GatewayAsked}
use Rattle.api_types.specs.declared.form.PairAsked.{PairAsked}
use Rattle.api_types.specs.declared.subnet.Hop.{Hop}
use Rattle.json_values.specs.Numbers.{four_in, mac_in}
use Rattle.json_values.specs.Six.{six_in}
use Rattle.json_values.specs.Texts.{id_in, address_in, written_in, prefix_in}
use Rattle.json_values.specs.Values.{kept, applied, said_by, object_of, member_of, maybe_of}

abbrev pub id_of : Data → Option Ident
id_of = said_by id_in

-- the number of an address of version 4
abbrev pub four_of : Data → Option ℕ
four_of = said_by four_in

-- and of one of version 6
abbrev pub six_of : Data → Option ℕ
six_of = said_by six_in

abbrev pub address_of : Data → Option Addr
address_of = said_by address_in

abbrev pub mac_of : Data → Option MacAddress
mac_of = said_by mac_in

-- the MAC of one card
abbrev pub card_of : Data → Option ℕ
card_of d = kept is_unicast (mac_of d)

-- an address, or a prefix whose other bits are cleared
abbrev pub prefix_said : Data → Option Prefix
prefix_said = said_by prefix_in

-- a prefix whose other bits are zero
abbrev pub exact_of : Data → Option Prefix
exact_of d = option_map prefix_of (kept is_exact (said_by written_in d))

-- a pool: from `start` to `end`, which is of its version and isn't below it
abbrev pub is_span : Span → Bool
is_span span = same_version span.first span.last && nat_le (number span.first) (number span.last)

abbrev pub span : Addr → Addr → Span
span first last = record { first = first; last = last }

abbrev pub span_of : Data → Option Span
span_of = object_of (codes "end" ∷ codes "start" ∷ []) (λ d.
    kept is_span
    (applied (option_map span (member_of address_of (codes "start") d))
    (member_of address_of (codes "end") d)))

-- a route: a destination, and a next hop of its version
abbrev pub is_hop : Hop → Bool
is_hop h = same_version h.destination.base h.next

abbrev pub hop : Prefix → Addr → Hop
hop destination next = record { destination = destination; next = next }

abbrev pub hop_of : Data → Option Hop
hop_of = object_of (codes "destination" ∷ codes "nexthop" ∷ []) (λ d.
    kept is_hop
    (applied (option_map hop (member_of exact_of (codes "destination") d))
    (member_of address_of (codes "nexthop") d)))

-- a fixed address: an address, a subnet or both
abbrev pub names_one : FixedAsked → Bool
names_one fixed = is_some fixed.address || is_some fixed.subnet

abbrev pub fixed : Option Addr → Option Ident → FixedAsked
fixed address subnet = record { address = address; subnet = subnet }

abbrev pub fixed_of : Data → Option FixedAsked
fixed_of = object_of (codes "ip_address" ∷ codes "subnet_id" ∷ []) (λ d.
    kept names_one
    (applied (option_map fixed (maybe_of address_of (codes "ip_address") d))
    (maybe_of id_of (codes "subnet_id") d)))

-- an allowed address pair
abbrev pub pair : Option ℕ → Prefix → PairAsked
pair mac prefix = record { mac = mac; prefix = prefix }

abbrev pub pair_of : Data → Option PairAsked
pair_of = object_of (codes "ip_address" ∷ codes "mac_address" ∷ []) (λ d.
    applied (option_map pair (maybe_of card_of (codes "mac_address") d))
    (member_of prefix_said (codes "ip_address") d))

-- a gateway
abbrev pub gateway : Ident → Option Bool → GatewayAsked
gateway network snat = record { network = network; snat = snat }

abbrev pub gateway_of : Data → Option GatewayAsked
gateway_of = object_of (codes "enable_snat" ∷ codes "network_id" ∷ []) (λ d.
    applied (option_map gateway (member_of id_of (codes "network_id") d))
    (maybe_of as_bool (codes "enable_snat") d))

-- two ids are different
abbrev pub other_id : Ident → Ident → Bool
other_id i j = not (ident_eq i j)

-- two routes are different
abbrev pub other_hop : Hop → Hop → Bool
other_hop a b =
    not (addr_eq a.destination.base b.destination.base && (a.destination.len == b.destination.len)
    && addr_eq a.next b.next)
