-- Prefixes and spans of IPv4 addresses, which are numbers of 32 bits (RFC 4632).
use Rattle.std.specs.Prelude.{◌≡◌, ℕ, ◌+◌, ◌-◌, ◌/◌, ◌%◌, ◌^◌, ◌≤◌, ◌==◌, ◌&&◌, ◌||◌, not, Bool, nat_lt, nat_le}

-- the base and the number of bits in which the addresses agree with it
pub record Prefix : Type 0 where
  pub base : ℕ
  pub len : ℕ

-- the first and the last of some addresses in a row
pub record Span : Type 0 where
  pub first : ℕ
  pub last : ℕ

-- at most 32 bits count, and those of the base that don't count are zero
abbrev pub IsPrefix : Prefix → Type 0
IsPrefix p = (p.len ≤ 32) × (p.base % 2 ^ (32 - p.len) ≡ 0)

-- whether x and the base have equal quotients by 2^(32 - length)
abbrev pub contains : Prefix → ℕ → Bool
contains p x = (x / 2 ^ (32 - p.len)) == (p.base / 2 ^ (32 - p.len))

-- the greatest address of a prefix
abbrev pub last_address : Prefix → ℕ
last_address p = p.base + (2 ^ (32 - p.len) - 1)

-- whether x is a host address: the prefix contains it, and it is neither the least nor the
-- greatest
abbrev pub is_host_of : Prefix → ℕ → Bool
is_host_of p x = contains p x && not (x == p.base) && not (x == last_address p)

-- whether one of the two has the other's base, which is where some address is in both
abbrev pub overlaps : Prefix → Prefix → Bool
overlaps p q = contains p q.base || contains q p.base

abbrev pub prefix_eq : Prefix → Prefix → Bool
prefix_eq p q = (p.base == q.base) && (p.len == q.len)

-- whether x is one of the addresses
abbrev pub is_within : Span → ℕ → Bool
is_within s x = nat_le s.first x && nat_le x s.last

-- whether one of the two ends before the other begins, which is where no address is in both
abbrev pub are_apart : Span → Span → Bool
are_apart s t = nat_lt s.last t.first || nat_lt t.last s.first
