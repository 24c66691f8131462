-- Names of hosts and physical networks, as lists of bytes, and texts that differ.
use Rattle.std.specs.Prelude.{ℕ, Bool, List, length, ◌&&◌, ◌||◌, ◌==◌, nat_le}
use Rattle.std.specs.List.{list_all}
use Rattle.std.specs.Char.{is_ascii_alphanumeric}
use Rattle.std.specs.Str.{bytes_eq}
use Rattle.std.specs.Set.{distinct_count}
use Rattle.net_addr.specs.Words.{Text}

-- a letter or a digit of ASCII, `-`, `_` or `.`
abbrev pub is_name_byte : ℕ → Bool
is_name_byte b = ((is_ascii_alphanumeric b || b == 45) || b == 95) || b == 46

-- 1 to `most` such characters
abbrev pub is_name : ℕ → Text → Bool
is_name most text =
    (nat_le 1 (length text) && nat_le (length text) most) && list_all is_name_byte text

-- there are as many different texts as texts
abbrev pub are_different : List Text → Bool
are_different texts = distinct_count bytes_eq texts == length texts
