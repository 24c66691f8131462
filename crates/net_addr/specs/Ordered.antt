-- The order of addresses of both versions, and the prefix of one address alone.
use Rattle.std.specs.Prelude.{ℕ, ◌==◌, ◌&&◌, ◌||◌, nat_lt, Bool, Option, Some, None}
use Rattle.net_addr.specs.Addresses.{number, width}
use Rattle.net_addr.specs.Prefixes.{Prefix}
use Rattle.net_addr.specs.declared.address.Addr.{Addr}
use Rattle.net_addr.specs.declared.address.Addr.TheVariants.{V4, V6}

-- the number of an address of version 4
abbrev pub four : Addr → Option ℕ
four (V4 n) = Some n
four (V6 n) = None

-- version 4 goes before version 6, and then the lesser number before the greater
abbrev pub addr_before : Addr → Addr → Bool
addr_before x y =
    nat_lt (width x) (width y) || ((width x == width y) && nat_lt (number x) (number y))

-- `addr_eq` by the same numbers, for orders
abbrev pub same_place : Addr → Addr → Bool
same_place x y = (width x == width y) && (number x == number y)

-- the prefix that contains this address alone
abbrev pub whole_prefix : Addr → Prefix
whole_prefix x = record { base = x; len = width x }
