-- How the values of rows are printed.
use Rattle.std.specs.Prelude.{ℕ, List, [], ◌∷◌, map, Option, Some, None, codes}
use Rattle.net_addr.specs.Words.{MacAddress}
use Rattle.net_addr.specs.Prefixes.{Prefix, Span}
use Rattle.net_addr.specs.Spelling.{addr_text, address_text, mac_text, prefix_text}
use Rattle.net_addr.specs.declared.address.Addr.{Addr}
use Rattle.api_types.specs.Ident.{Ident, ident_text}
use Rattle.api_types.specs.Printed.{Tree, null, word, items, trees_of, object, branches_of}
use Rattle.api_types.specs.declared.port.Fixed.{Fixed}
use Rattle.api_types.specs.declared.port.Pair.{Pair}
use Rattle.api_types.specs.declared.subnet.Hop.{Hop}

abbrev pub id_word : Ident → Tree
id_word i = word (ident_text i)

abbrev pub address_word : Addr → Tree
address_word a = word (addr_text a)

-- of version 4 alone
abbrev pub four_word : ℕ → Tree
four_word a = word (address_text a)

abbrev pub mac_word : MacAddress → Tree
mac_word m = word (mac_text m)

abbrev pub prefix_word : Prefix → Tree
prefix_word p = word (prefix_text p)

-- what isn't there is null
abbrev pub null_or : {X : Type 0} → (X → Tree) → Option X → Tree
null_or printed None = null
null_or printed (Some x) = printed x

abbrev pub list_of : {X : Type 0} → (X → Tree) → List X → Tree
list_of printed xs = items (trees_of (map printed xs))

abbrev pub fixed_object : Fixed → Tree
fixed_object f =
    object (branches_of
    ((codes "ip_address", address_word f.address) ∷ (codes "subnet_id", id_word f.subnet) ∷ []))

abbrev pub pair_object : Pair → Tree
pair_object p =
    object (branches_of
    ((codes "ip_address", prefix_word p.prefix) ∷ (codes "mac_address", mac_word p.mac) ∷ []))

abbrev pub route_object : Hop → Tree
route_object h =
    object (branches_of ((codes "destination", prefix_word h.destination)
    ∷ (codes "nexthop", address_word h.next) ∷ []))

abbrev pub span_object : Span → Tree
span_object s =
    object
    (branches_of ((codes "end", address_word s.last) ∷ (codes "start", address_word s.first) ∷ []))
