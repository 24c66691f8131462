-- Prefixes of addresses (RFC 4632 of 32 bits; RFC 4291, 2.3 of 128).
use Rattle.std.specs.Prelude.{◌≡◌, ℕ, ◌+◌, ◌-◌, ◌*◌, ◌/◌, ◌%◌, ◌^◌, ◌≤◌, ◌==◌, ◌&&◌, ◌||◌, not, Bool, true, nat_lt, if◌then◌else◌, Option, Some, None}
use Rattle.net_addr.specs.Addresses.{width, number, with_number, same_version, is_v4}
use Rattle.net_addr.specs.Words.{MacAddress}
use Rattle.net_addr.specs.declared.address.Addr.{Addr}

-- an address and a length, as written
pub record Written : Type 0 where
  pub addr : Addr
  pub len : ℕ

-- the base and the number of bits in which the addresses agree with it
pub record Prefix : Type 0 where
  pub base : Addr
  pub len : ℕ

-- the first and the last of some addresses in a row, of one version
pub record Span : Type 0 where
  pub first : Addr
  pub last : Addr

-- how many bits of an address there are after the length
abbrev pub bits_behind : Prefix → ℕ
bits_behind p = width p.base - p.len

-- at most as many bits count as there are, and those of the base that don't count are zero
abbrev pub IsPrefix : Prefix → Type 0
IsPrefix p = (p.len ≤ width p.base) × (number p.base % 2 ^ bits_behind p ≡ 0)

-- at most as many bits count as there are
abbrev pub IsWritten : Written → Type 0
IsWritten w = w.len ≤ width w.addr

-- both are of one version, and the first isn't above the last
abbrev pub IsSpan : Span → Type 0
IsSpan s = (same_version s.first s.last ≡ true) × (number s.first ≤ number s.last)

-- x is of the base's version, and the two have equal quotients by 2^(width - length)
abbrev pub Contains : Prefix → Addr → Type 0
Contains p x =
    (same_version p.base x ≡ true)
    × (number x / 2 ^ bits_behind p ≡ number p.base / 2 ^ bits_behind p)

-- whether `Contains` holds
unfoldable pub contains : Prefix → Addr → Bool
contains p x =
    same_version p.base x
    && ((number x / 2 ^ bits_behind p) == (number p.base / 2 ^ bits_behind p))

-- the least address of a prefix
abbrev pub first_address : Prefix → Addr
first_address p = p.base

-- the number of the greatest address of a prefix, and the address
unfoldable pub last_number : Prefix → ℕ
last_number p = number p.base + (2 ^ bits_behind p - 1)

unfoldable pub last_address : Prefix → Addr
last_address p = with_number p.base (last_number p)

-- whether x is a host address: the prefix contains it, and it isn't the least nor, of version 4,
-- the greatest
unfoldable pub is_host_of : Prefix → Addr → Bool
is_host_of p x =
    contains p x && not (number x == number p.base)
    && not (is_v4 p.base && (number x == last_number p))

-- how many addresses at the end of a prefix are no host addresses
abbrev pub kept_back : Addr → ℕ
kept_back x = if is_v4 x then 1 else 0

-- the first and the last host address, where there are any, which is at lengths to 30 of version 4
-- and to 127 of version 6
unfoldable pub host_addresses : Prefix → Option Span
host_addresses p =
    if nat_lt (width p.base - (1 + kept_back p.base)) p.len then None
    else Some (record {
      first = with_number p.base (number p.base + 1);
      last = with_number p.base (last_number p - kept_back p.base);
    })

-- whether one of the two has the other's base, which is where some address is in both
unfoldable pub overlaps : Prefix → Prefix → Bool
overlaps p q = contains p q.base || contains q p.base

-- the address with its bits after the length cleared
unfoldable pub prefix_of : Written → Prefix
prefix_of w = record {
  base = with_number w.addr
      ((number w.addr / 2 ^ (width w.addr - w.len)) * 2 ^ (width w.addr - w.len));
  len = w.len;
}

-- whether the bits after the length are zero
unfoldable pub is_exact : Written → Bool
is_exact w = (number w.addr % 2 ^ (width w.addr - w.len)) == 0

-- a byte with its bit of value 2 flipped
abbrev pub with_flipped_bit : ℕ → ℕ
with_flipped_bit b = if (b / 2 % 2) == 0 then b + 2 else b - 2

-- the address that a port with this MAC takes in a prefix of 64 bits of version 6 (RFC 4291,
-- appendix A): after the base the eight bytes of the MAC's first three, the bit of value 2 of the
-- first of them flipped, then 255 and 254, then the MAC's last three
unfoldable pub eui_number : MacAddress → ℕ
eui_number mac =
    with_flipped_bit (mac / 2 ^ 40) * 2 ^ 56 + (mac / 2 ^ 24 % 2 ^ 16) * 2 ^ 40
    + 255 * 2 ^ 32 + 254 * 2 ^ 24 + mac % 2 ^ 24

unfoldable pub eui : Prefix → MacAddress → Addr
eui p mac = with_number p.base (number p.base + eui_number mac)
