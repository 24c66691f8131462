-- The members of security groups (Networking API v2.0, security groups): the fixed addresses and
-- pair prefixes of all ports that name one.
use Rattle.std.specs.Prelude.{◌&&◌, ◌||◌, Bool, List, [], ◌∷◌, ◌++◌, map, flat_map, if◌then◌else◌}
use Rattle.std.specs.List.{list_any}
use Rattle.net_addr.specs.declared.address.Addr.{Addr}
use Rattle.net_addr.specs.Prefixes.{contains, Prefix}
use Rattle.api_types.specs.Ident.{Ident}
use Rattle.api_types.specs.RowLists.{RowLists}
use Rattle.api_types.specs.Table.{ident_eq}
use Rattle.api_types.specs.declared.port.Pair.{Pair}
use Rattle.api_types.specs.declared.port.PortRow.{PortRow}
use Rattle.api_types.specs.Holders.{holds}
use Rattle.net_addr.specs.Ordered.{whole_prefix}
use Rattle.api_types.specs.Consistent.Groups.{prefix_eq}
use Rattle.api_types.specs.declared.port.Fixed.{Fixed}
use Rattle.api_types.specs.Ascending.{ascending, prefix_before}

abbrev pub names_group : Ident → List Ident → Bool
names_group g groups = list_any (ident_eq g) groups

abbrev pub in_pairs : List Pair → Addr → Bool
in_pairs pairs x = list_any (λ (y : Pair). contains y.prefix x) pairs

-- a group's members are the fixed addresses and pair prefixes of all ports that name it
abbrev pub gives_member : Ident → Addr → PortRow → Bool
gives_member g x p = names_group g p.groups && (holds p x || in_pairs p.pairs x)

unfoldable pub is_member : RowLists → Ident → Addr → Bool
is_member rows g x = list_any (gives_member g x) rows.ports

-- what a port gives to a group, as prefixes
abbrev pub prefixes_of : Ident → PortRow → List Prefix
prefixes_of g p =
    if names_group g p.groups
    then map (λ (f : Fixed). whole_prefix f.address) p.fixed
    ++ map (λ (x : Pair). x.prefix) p.pairs
    else []

-- each once
unfoldable pub once : List Prefix → List Prefix
once [] = []
once (p ∷ ps) = if list_any (prefix_eq p) ps then once ps else p ∷ once ps

unfoldable pub members : RowLists → Ident → List Prefix
members rows g = ascending prefix_before (once (flat_map (prefixes_of g) rows.ports))
