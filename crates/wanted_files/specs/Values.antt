-- What a key of a table of TOML says (https://toml.io/en/v1.1.0). None is said if there is no such
-- key, or its value has another form.
use Rattle.std.specs.Prelude.{ℕ, ℤ, pos, negsuc, ◌&&◌, nat_le, Bool, true, List, Option, Some, None, option_map, option_and_then, if◌then◌else◌}
use Rattle.net_addr.specs.Words.{Text}
use Rattle.net_addr.specs.declared.address.Addr.{Addr}
use Rattle.api_types.specs.Ident.{Ident}
use Rattle.json_values.specs.Texts.{address_in, id_in}
use Rattle.json_values.specs.Values.{is_among}
use Rattle.toml.specs.Data.{Data, Members, no_members, member, get_member, as_integer, as_str}

-- the string at a key
abbrev pub text_at : Text → Members → Option Text
text_at key ms = option_and_then as_str (get_member key ms)

-- the id that the string at a key spells (RFC 9562, section 4)
abbrev pub id_at : Text → Members → Option Ident
id_at key ms = option_and_then id_in (text_at key ms)

-- the address that a string spells, of either version (RFC 3986, 3.2.2; RFC 4291, 2.2)
abbrev pub address_of : Data → Option Addr
address_of d = option_and_then address_in (as_str d)

-- the address at a key, or that there is no such key
abbrev pub address_from : Option Data → Option (Option Addr)
address_from None = Some None
address_from (Some d) = option_map Some (address_of d)

abbrev pub address_at : Text → Members → Option (Option Addr)
address_at key ms = address_from (get_member key ms)

-- a whole number to 65,535
abbrev pub if_small : ℤ → Option ℕ
if_small (pos n) = if nat_le n 65535 then Some n else None
if_small (negsuc n) = None

abbrev pub number_of : Data → Option ℕ
number_of d = option_and_then if_small (as_integer d)

-- the number at a key
abbrev pub number_at : Text → Members → Option ℕ
number_at key ms = option_and_then number_of (get_member key ms)

-- each key is one of these
abbrev pub has_only : List Text → Members → Bool
has_only keys no_members = true
has_only keys (member key d ms) = is_among keys key && has_only keys ms
