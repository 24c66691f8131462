-- Numbers as texts of digits.
use Rattle.std.specs.Prelude.{ℕ, Bool, ◌&&◌, nat_le, length, Option, Some, None, if◌then◌else◌}
use Rattle.std.specs.List.{list_all}
use Rattle.std.specs.Char.{is_ascii_digit}
use Rattle.std.specs.Str.Parse.{digits_value}
use Rattle.http_heads.specs.Texts.{Text}

-- from 1 to `most` digits, and nothing else
abbrev pub is_number : ℕ → Text → Bool
is_number most text =
    nat_le 1 (length text) && (nat_le (length text) most && list_all is_ascii_digit text)

-- the number that from 1 to `most` digits write
abbrev pub number_in : ℕ → Text → Option ℕ
number_in most text = if is_number most text then Some (digits_value 10 text) else None
