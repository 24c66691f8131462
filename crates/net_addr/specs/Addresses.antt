-- Addresses of both versions (RFC 791; RFC 4291). An address is `V4` of a number below 2^32 or
-- `V6` of one below 2^128.
use Rattle.std.specs.Prelude.{ℕ, ◌^◌, ◌<◌, ◌==◌, Bool, true, false}
use Rattle.net_addr.specs.declared.address.Addr.{Addr}
use Rattle.net_addr.specs.declared.address.Addr.TheVariants.{V4, V6}

-- how many bits an address of this one's version has
abbrev pub width : Addr → ℕ
width (V4 n) = 32
width (V6 n) = 128

-- the number of its bits
abbrev pub number : Addr → ℕ
number (V4 n) = n
number (V6 n) = n

-- the address of the same version with another number
abbrev pub with_number : Addr → ℕ → Addr
with_number (V4 _) n = V4 n
with_number (V6 _) n = V6 n

-- whether two addresses are of one version
abbrev pub same_version : Addr → Addr → Bool
same_version (V4 _) (V4 _) = true
same_version (V6 _) (V6 _) = true
same_version _ _ = false

-- whether two addresses are equal
abbrev pub addr_eq : Addr → Addr → Bool
addr_eq (V4 m) (V4 n) = m == n
addr_eq (V6 m) (V6 n) = m == n
addr_eq _ _ = false

-- the number fits the version
abbrev pub IsAddr : Addr → Type 0
IsAddr x = number x < 2 ^ width x

-- whether an address is of version 4
abbrev pub is_v4 : Addr → Bool
is_v4 (V4 _) = true
is_v4 (V6 _) = false

-- whether an address is that of version 4 with a number
abbrev pub is_four : Addr → ℕ → Bool
is_four x n = addr_eq x (V4 n)
