-- What a text says where an address, a prefix or an id is expected. None is said by a text that
-- spells none.
use Rattle.std.specs.Prelude.{ℕ, ◌+◌, ◌/◌, ◌%◌, ◌^◌, ◌==◌, ◌&&◌, Bool, nat_le, nat_lt, if◌then◌else◌, Option, Some, None, option_map, option_and_then}
use Rattle.std.specs.Int.{w128, from_be_bytes}
use Rattle.std.specs.List.{after_first, before_first}
use Rattle.std.specs.Str.{bytes_eq}
use Rattle.net_addr.specs.Words.{Text}
use Rattle.uuid.specs.Text.{parsed_hyphenated}
use Rattle.net_addr.specs.Addresses.{width}
use Rattle.net_addr.specs.Ordered.{whole_prefix}
use Rattle.net_addr.specs.Prefixes.{Written, Prefix, prefix_of}
use Rattle.net_addr.specs.declared.address.Addr.{Addr}
use Rattle.net_addr.specs.declared.address.Addr.TheVariants.{V4, V6}
use Rattle.api_types.specs.Ident.{Ident, uuid_bytes}
use Rattle.json_values.specs.Numbers.{number_in, four_in}
use Rattle.json_values.specs.Six.{or_else, six_in}

-- the address of either version that the text spells; no text spells one of both
abbrev pub address_in : Text → Option Addr
address_in text = or_else (option_map V4 (four_in text)) (option_map V6 (six_in text))

abbrev pub is_slash : ℕ → Bool
is_slash b = b == 47

abbrev pub written : Addr → ℕ → Written
written addr len = record { addr = addr; len = len }

-- the address before the first slash, and after it the length, to 32 or 128 (RFC 4632, 3.1; RFC
-- 4291, 2.3)
unfoldable pub written_in : Text → Option Written
written_in text =
    option_and_then
    (λ addr. option_map (written addr) (number_in (width addr + 1) (after_first is_slash text)))
    (address_in (before_first is_slash text))

abbrev pub prefix_by : Option Addr → Option Written → Option Prefix
prefix_by (Some address) w = Some (whole_prefix address)
prefix_by None w = option_map prefix_of w

-- an address, or an address with a length, of which the bits after the length are cleared
abbrev pub prefix_in : Text → Option Prefix
prefix_in text = prefix_by (address_in text) (written_in text)

-- whether a project can have drawn the id
abbrev pub is_drawable : Ident → Bool
is_drawable i =
    nat_le 1 i.ordinal && nat_lt i.ordinal (2 ^ 32) && nat_le 1 i.count && nat_lt i.count (2 ^ 62)

-- the id, if a project can have drawn it and these are its sixteen bytes
abbrev pub ident_if : Text → Ident → Option Ident
ident_if bytes i = if is_drawable i && bytes_eq (uuid_bytes i) bytes then Some i else None

-- the ordinal stands in the first 32 bits of sixteen bytes, the count in the last 62
abbrev pub ident_at : ℕ → Ident
ident_at n = record { ordinal = n / 2 ^ 96; count = n % 2 ^ 62 }

abbrev pub ident_with : Text → Option Ident
ident_with bytes = ident_if bytes (ident_at (from_be_bytes w128 bytes))

-- the id that has this hyphenated text, in either case (RFC 9562, section 4)
unfoldable pub id_in : Text → Option Ident
id_in text = option_and_then ident_with (parsed_hyphenated text)
