-- Texts of addresses of version 6 (RFC 4291, 2.2), without a zone. They are read from the front:
-- what reads a part has the bits so far and the text that is left, and hands both on to what reads
-- the rest. None is read of a text that isn't in the grammar, and no text has two addresses.
use Rattle.std.specs.Prelude.{ℕ, zero, suc, ◌+◌, ◌-◌, ◌*◌, ◌^◌, ◌==◌, ◌&&◌, Bool, true, false, nat_le, nat_lt, [], ◌∷◌, length, take, drop, if◌then◌else◌, Option, Some, None, option_map}
use Rattle.std.specs.Char.{digit_value}
use Rattle.std.specs.List.{list_all}
use Rattle.std.specs.Str.Parse.{digits_value}
use Rattle.net_addr.specs.Words.{Text}
use Rattle.net_addr.specs.Spelling.{group_count}
use Rattle.json_values.specs.Numbers.{four_in}

-- the first of two that is there
abbrev pub or_else : {T : Type 0} → Option T → Option T → Option T
or_else None other = other
or_else (Some x) other = Some x

-- the end of the text
abbrev pub ended : ℕ → Text → Option ℕ
ended bits [] = Some bits
ended bits (b ∷ text) = None

-- an IPv4 text, to the end
abbrev pub tail : ℕ → Text → Option ℕ
tail bits text = option_map (λ n. bits * 2 ^ 32 + n) (four_in text)

-- a colon
abbrev pub colon : (ℕ → Text → Option ℕ) → ℕ → Text → Option ℕ
colon next bits [] = None
colon next bits (b ∷ text) = if b == 58 then next bits text else None

-- a hexadecimal digit, in either case
abbrev pub is_hex : ℕ → Bool
is_hex b = nat_lt (digit_value b) 16

abbrev pub has_digits : ℕ → Text → Bool
has_digits k text = nat_le k (length text) && list_all is_hex (take k text)

abbrev pub digits : (ℕ → Text → Option ℕ) → ℕ → ℕ → Text → Option ℕ
digits next k bits text =
    if has_digits k text then next (bits * 2 ^ 16 + digits_value 16 (take k text)) (drop k text)
    else None

-- a group: one to four digits, 16 bits
abbrev pub group : (ℕ → Text → Option ℕ) → ℕ → Text → Option ℕ
group next bits text =
    or_else (digits next 1 bits text)
    (or_else (digits next 2 bits text)
    (or_else (digits next 3 bits text) (digits next 4 bits text)))

-- this many groups, each with a colon after it
abbrev pub before : ℕ → (ℕ → Text → Option ℕ) → ℕ → Text → Option ℕ
before zero next = next
before (suc k) next = group (colon (before k next))

-- this many groups with colons between
abbrev pub row : ℕ → (ℕ → Text → Option ℕ) → ℕ → Text → Option ℕ
row zero next = next
row (suc k) next = before k (group next)

-- the last groups, this many, and an IPv4 text after them if there is a tail
abbrev pub last : Bool → ℕ → ℕ → Text → Option ℕ
last false k = row k ended
last true k = before k tail

-- `::` for this many groups of zeros
abbrev pub gap : ℕ → (ℕ → Text → Option ℕ) → ℕ → Text → Option ℕ
gap k next = colon (colon (λ bits. next (bits * 2 ^ (16 * k))))

-- `::` between this many groups and this many, for all the others
abbrev pub shortened : Bool → ℕ → ℕ → ℕ → Text → Option ℕ
shortened has_tail left right =
    row left (gap (group_count has_tail - (left + right)) (last has_tail right))

-- the first that is there, of those below a bound
abbrev pub first_below : ℕ → (ℕ → Option ℕ) → Option ℕ
first_below zero gives = None
first_below (suc k) gives = or_else (first_below k gives) (gives k)

-- `::` after this many groups
abbrev pub shortened_behind : Bool → Text → ℕ → Option ℕ
shortened_behind has_tail text left =
    first_below (group_count has_tail - left) (λ right. shortened has_tail left right 0 text)

-- all groups, or `::` for one or more
abbrev pub six_by : Bool → Text → Option ℕ
six_by has_tail text =
    or_else (last has_tail (group_count has_tail) 0 text)
    (first_below (group_count has_tail) (shortened_behind has_tail text))

-- the number of the address of version 6 that the text spells, with an IPv4 text at its end or
-- without
unfoldable pub six_in : Text → Option ℕ
six_in text = or_else (six_by false text) (six_by true text)
