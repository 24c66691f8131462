-- Names of tables: 1 to 64 letters and digits of ASCII, `-` and `_`.
use Rattle.std.specs.Prelude.{ℕ, Bool, List, length, ◌&&◌, ◌||◌, ◌==◌, nat_le, Option, Some, None, option_and_then, codes, if◌then◌else◌}
use Rattle.std.specs.Char.{is_ascii_alphanumeric}
use Rattle.std.specs.List.{list_all}
use Rattle.std.specs.Set.{distinct_count}
use Rattle.std.specs.Str.{bytes_eq}
use Rattle.net_addr.specs.Words.{Text}
use Rattle.toml.specs.Data.{Members}
use Rattle.wanted_files.specs.Values.{text_at}

abbrev pub is_name_byte : ℕ → Bool
is_name_byte b = is_ascii_alphanumeric b || b == 45 || b == 95

abbrev pub is_name : Text → Bool
is_name name = nat_le 1 (length name) && nat_le (length name) 64 && list_all is_name_byte name

abbrev pub name_if_good : Text → Option Text
name_if_good name = if is_name name then Some name else None

-- the name that a table has
abbrev pub name_in : Members → Option Text
name_in ms = option_and_then name_if_good (text_at (codes "name") ms)

-- there are as many different names as names
abbrev pub are_different : List Text → Bool
are_different names = distinct_count bytes_eq names == length names
