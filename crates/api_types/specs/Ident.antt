-- What an id is, and how it is laid out as a UUID of version 8 and variant 10 (RFC 9562, section
-- 5.8).
use Rattle.std.specs.Prelude.{◌≡◌, ℕ, ◌+◌, ◌*◌, ◌^◌, ◌<◌, ◌≤◌, Some}
use Rattle.std.specs.Int.{w128, to_be_bytes}
use Rattle.net_addr.specs.Words.{Bytes, Text}
use Rattle.uuid.specs.Text.{hyphenated_text, lower, parsed_hyphenated}

-- the ordinal of the project that the id was drawn for, and as which of that project's ids
pub record Ident : Type 0 where
  pub ordinal : ℕ
  pub count : ℕ

-- the first 32 bits are the ordinal, then come 16 zeros, the version 8, 12 zeros, the variant 10
-- and 62 bits of the count
unfoldable pub uuid_number : Ident → ℕ
uuid_number i = (i.ordinal * 2 ^ 32 + 8 * 2 ^ 12) * 2 ^ 64 + (2 * 2 ^ 62 + i.count)

-- the sixteen bytes
unfoldable pub uuid_bytes : Ident → Bytes
uuid_bytes i = to_be_bytes w128 (uuid_number i)

-- the printed form, in lower case with hyphens
unfoldable pub ident_text : Ident → Text
ident_text i = hyphenated_text lower (uuid_bytes i)

-- an id that a project can have drawn: ordinals have 32 bits, counts 62, and both begin at 1
pub record IsDrawable (i : Ident) : Type 0 where
  pub first_ordinal : 1 ≤ i.ordinal
  pub last_ordinal : i.ordinal < 2 ^ 32
  pub first_count : 1 ≤ i.count
  pub last_count : i.count < 2 ^ 62

-- a text is the hyphenated form of an id, in either case
pub record Spells (text : Text) (i : Ident) : Type 0 where
  pub drawable : IsDrawable i
  pub form : parsed_hyphenated text ≡ Some (uuid_bytes i)
