-- Addresses in a row.
use Rattle.std.specs.Prelude.{◌&&◌, ◌||◌, not, nat_lt, nat_le, Bool}
use Rattle.net_addr.specs.Addresses.{number, same_version}
use Rattle.net_addr.specs.Prefixes.{Span}
use Rattle.net_addr.specs.declared.address.Addr.{Addr}

-- whether x is one of the addresses
unfoldable pub is_within : Span → Addr → Bool
is_within s x =
    same_version s.first x && nat_le (number s.first) (number x)
    && nat_le (number x) (number s.last)

-- whether the two are of different versions, or one ends before the other begins, which is where
-- no address is in both
unfoldable pub are_apart : Span → Span → Bool
are_apart s t =
    not (same_version s.first t.first) || nat_lt (number s.last) (number t.first)
    || nat_lt (number t.last) (number s.first)
