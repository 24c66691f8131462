-- What values of options and numbers are, and what they give.
use Rattle.std.specs.Prelude.{ℕ, ◌==◌, ◌&&◌, [], ◌∷◌, length, Bool, false, not, Option, Some, None, codes, if◌then◌else◌, nat_le, option_and_then}
use Rattle.std.specs.List.{list_all}
use Rattle.std.specs.Str.{bytes_eq}
use Rattle.std.specs.Char.{is_ascii_digit}
use Rattle.std.specs.Str.Parse.{digits_value}
use Rattle.clap.specs.Walk.{Text}
use Rattle.command_lines.specs.declared.line.Delivery.{Delivery}
use Rattle.command_lines.specs.declared.line.Delivery.TheVariants.{Automatic, Manual}

-- a value isn't empty and doesn't begin with a hyphen
abbrev pub is_value : Text → Bool
is_value [] = false
is_value (b ∷ bytes) = not (b == 45)

abbrev pub value_of : Text → Option Text
value_of text = if is_value text then Some text else None

-- the value of an option that may be absent
abbrev pub optional_value : Option Text → Option (Option Text)
optional_value None = Some None
optional_value (Some text) = if is_value text then Some (Some text) else None

abbrev pub required_value : Option Text → Option Text
required_value given = option_and_then value_of given

-- 1 to 20 digits and nothing else
abbrev pub is_digits : Text → Bool
is_digits text = nat_le 1 (length text) && nat_le (length text) 20 && list_all is_ascii_digit text

abbrev pub is_within : ℕ → ℕ → ℕ → Bool
is_within least most n = nat_le least n && nat_le n most

-- the number from the least to the most that the digits write
abbrev pub number_of : ℕ → ℕ → Text → Option ℕ
number_of least most text =
    if is_digits text && is_within least most (digits_value 10 text)
    then Some (digits_value 10 text)
    else None

abbrev pub required_number : ℕ → ℕ → Option Text → Option ℕ
required_number least most given = option_and_then (number_of least most) given

-- automatic where nothing is said
abbrev pub delivery_of : Option Text → Option Delivery
delivery_of None = Some Automatic
delivery_of (Some text) =
    if bytes_eq text (codes "auto") then Some Automatic
    else if bytes_eq text (codes "manual") then Some Manual else None

-- whether an option without a value was there
abbrev pub is_set : Option Text → Bool
is_set None = false
is_set (Some text) = bytes_eq text (codes "true")
