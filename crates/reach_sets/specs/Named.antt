-- Of which ports and addresses a table of a wanted file speaks. An address that isn't named is the
-- port's first one of version 4.
use Rattle.std.specs.Prelude.{Bool, Option, Some, None, is_some, option_map, option_and_then, if◌then◌else◌, List}
use Rattle.std.specs.List.{list_all}
use Rattle.net_addr.specs.Addresses.{same_version}
use Rattle.net_addr.specs.declared.address.Addr.{Addr}
use Rattle.net_addr.specs.declared.address.Addr.TheVariants.{V4}
use Rattle.api_types.specs.Holders.{holds}
use Rattle.api_types.specs.RouterRows.{first_four}
use Rattle.api_types.specs.RowLists.{RowLists}
use Rattle.api_types.specs.RowsWith.{port_with}
use Rattle.api_types.specs.declared.port.PortRow.{PortRow}
use Rattle.plane_types.specs.Ends.{Ends, ends_of}
use Rattle.reach_sets.specs.TwoPorts.{TwoPorts}
use Rattle.wanted_files.specs.declared.wanted.WantedReach.{WantedReach}

-- the address that is named, which the port has to hold, or its first one of version 4
abbrev pub address_of : PortRow → Option Addr → Option Addr
address_of p None = option_map V4 (first_four p.fixed)
address_of p (Some a) = if holds p a then Some a else None

-- two addresses of one version
abbrev pub ends_if_same : Addr → Addr → Option Ends
ends_if_same a b = if same_version a b then Some (ends_of a b) else None

abbrev pub ends_named : PortRow → PortRow → WantedReach → Option Ends
ends_named p q w =
    option_and_then
    (λ (a : Addr). option_and_then (ends_if_same a) (address_of q w.to_address))
    (address_of p w.from_address)

abbrev pub with_ends : PortRow → PortRow → Ends → TwoPorts
with_ends p q ends = record { from = p; to = q; ends = ends }

abbrev pub both_named : WantedReach → PortRow → PortRow → Option TwoPorts
both_named w p q = option_map (with_ends p q) (ends_named p q w)

-- the ports are there, hold the addresses, and these are of one version; otherwise None
abbrev pub named : RowLists → WantedReach → Option TwoPorts
named rows w =
    option_and_then (λ (p : PortRow). option_and_then (both_named w p) (port_with rows w.to))
    (port_with rows w.from)

-- so it is with each table
abbrev pub is_named : RowLists → WantedReach → Bool
is_named rows w = is_some (named rows w)

abbrev pub are_named : RowLists → List WantedReach → Bool
are_named rows wanted = list_all (is_named rows) wanted
