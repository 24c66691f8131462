-- Ids, addresses and texts as numbers, by which they are sorted.
use Rattle.std.specs.Prelude.{ℕ, ◌+◌, ◌*◌, ◌%◌, ◌^◌, if◌then◌else◌, List, [], ◌∷◌}
use Rattle.net_addr.specs.Addresses.{is_v4}
use Rattle.net_addr.specs.declared.address.Addr.{Addr}
use Rattle.api_types.specs.Ident.{Ident}
use Rattle.api_consistency.specs.declared.stretch.Stretch.{Stretch}

abbrev pub id_number : Ident → ℕ
id_number i = i.ordinal * 2 ^ 64 + i.count

-- what has been mixed so far, with one part more: a step modulo 2^128 with the multiplier of PCG
-- (O'Neill, 2014)
unfoldable pub mix : ℕ → ℕ → ℕ
mix all part = (all * 47026247687942121848144207491837523525 + part) % 2 ^ 128

-- equal lists have equal numbers
abbrev pub mixed : ℕ → List ℕ → ℕ
mixed all [] = all
mixed all (part ∷ parts) = mixed (mix all part) parts

abbrev pub version_group : ℕ → Addr → ℕ
version_group group x = if is_v4 x then group * 2 else group * 2 + 1

abbrev pub single : ℕ → ℕ → Stretch
single group number = record { group = group; first = number; last = number; holder = 0 }
