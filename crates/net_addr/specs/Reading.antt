-- How a text is read by its parts, byte by byte. Only private functions cite this.
use Rattle.std.specs.Prelude.{◌≡◌, ℕ, ◌+◌, ◌*◌, ◌^◌, ◌<◌, ◌≤◌, List, [], ◌∷◌, ◌++◌, length, take, max, Bool, true, false, ◌&&◌, nat_lt, nat_le, Option, Some, None, Result, Ok, Err}
use Rattle.std.specs.Char.{digit_value}
use Rattle.std.specs.Fmt.{decimal}
use Rattle.std.specs.Str.Parse.{AllDigits, digits_value_after}
use Rattle.net_addr.specs.Spelling.{Begins, IsLongestStart, Spells, end_parts, group_count, shortened_parts}
use Rattle.net_addr.specs.Words.{Text}
use Rattle.net_addr.specs.declared.spelling.BadAddress.{BadAddress}
use Rattle.net_addr.specs.declared.spelling.Part.{Part}
use Rattle.net_addr.specs.declared.spelling.Part.TheVariants.{Number, Digit, Mark, Group, Gap}
use Rattle.net_addr.specs.declared.spelling.State.{State}
use Rattle.net_addr.specs.declared.spelling.State.TheVariants.{Between, InNumber, InGroup}
use Rattle.net_addr.specs.declared.spelling.Reading.{Reading}

-- whether no text of these parts begins with a digit of the radix
abbrev pub no_digit_next : ℕ → List Part → Bool
no_digit_next radix [] = true
no_digit_next radix (Number top ∷ parts) = false
no_digit_next radix (Digit ∷ parts) = false
no_digit_next radix (Mark c ∷ parts) = nat_le radix (digit_value c)
no_digit_next radix (Group ∷ parts) = false
no_digit_next radix (Gap k ∷ parts) = nat_le radix (digit_value 58)

-- whether each number and each group ends where the next part begins, and no number is above 255
abbrev pub is_clear : List Part → Bool
is_clear [] = true
is_clear (Number top ∷ parts) = nat_lt top 256 && no_digit_next 10 parts && is_clear parts
is_clear (Digit ∷ parts) = is_clear parts
is_clear (Mark c ∷ parts) = is_clear parts
is_clear (Group ∷ parts) = no_digit_next 16 parts && is_clear parts
is_clear (Gap k ∷ parts) = is_clear parts

-- how many values the parts tell apart, if no number is above 255
abbrev pub value_count : List Part → ℕ
value_count [] = 1
value_count (Number top ∷ parts) = 256 * value_count parts
value_count (Digit ∷ parts) = 16 * value_count parts
value_count (Mark c ∷ parts) = value_count parts
value_count (Group ∷ parts) = 2 ^ 16 * value_count parts
value_count (Gap k ∷ parts) = 2 ^ (16 * k) * value_count parts

-- whether a text of these parts can be read
abbrev pub is_readable : List Part → Bool
is_readable parts = is_clear parts && nat_le (value_count parts) (2 ^ 128)

-- a number whose first digits are those of m is under way, and `parts` come after it
abbrev pub NumberGoesOn : List Part → ℕ → ℕ → ℕ → Text → ℕ → Type 0
NumberGoesOn parts value top m text n =
    (whole : ℕ) × (more : Text) × (rest : Text) × (whole ≤ top)
    × (decimal whole ≡ decimal m ++ more) × (text ≡ more ++ rest)
    × Spells parts (value * 256 + whole) rest n

-- a group is under way whose first digits, that many, write m, and `parts` come after it
abbrev pub GroupGoesOn : List Part → ℕ → ℕ → ℕ → Text → ℕ → Type 0
GroupGoesOn parts value count m text n =
    (more : Text) × (rest : Text) × (count + length more ≤ 4) × AllDigits 16 more
    × (text ≡ more ++ rest)
    × Spells parts (value * 2 ^ 16 + digits_value_after 16 m more) rest n

-- what may still come is this text, with n as the number of the whole
abbrev pub Remains : List Part → ℕ → State → Text → ℕ → Type 0
Remains parts value Between text n = Spells parts value text n
Remains parts value (InNumber d) text n = NumberGoesOn parts value d.top d.number text n
Remains parts value (InGroup g) text n = GroupGoesOn parts value g.count g.number text n

-- the value so far leaves room for what comes
abbrev pub HasRoom : List Part → ℕ → Type 0
HasRoom parts value = (value + 1) * value_count parts ≤ 2 ^ 128

-- the parts, the value and the part under way of a reading
abbrev pub IsReading : List Part → ℕ → State → Type 0
IsReading parts value Between = (is_clear parts ≡ true) × HasRoom parts value
IsReading parts value (InNumber d) =
    (is_clear parts ≡ true) × (no_digit_next 10 parts ≡ true) × (d.number ≤ d.top) × (d.top < 256)
    × ((value + 1) * (256 * value_count parts) ≤ 2 ^ 128)
IsReading parts value (InGroup g) =
    (is_clear parts ≡ true) × (no_digit_next 16 parts ≡ true) × (g.count ≤ 4)
    × (g.number < 2 ^ (4 * g.count)) × ((value + 1) * (2 ^ 16 * value_count parts) ≤ 2 ^ 128)

-- the two say the same of each text and number
abbrev pub Agree : (Text → ℕ → Type 0) → (Text → ℕ → Type 0) → Type 0
Agree P Q = (text : Text) (n : ℕ) → (P text n → Q text n) × (Q text n → P text n)

-- the byte c leads to this reading: what it leaves is what came after c; or nothing that may come
-- begins with c
abbrev pub Takes : (Text → ℕ → Type 0) → ℕ → Option Reading → Type 0
Takes P c None = (text : Text) (n : ℕ) → ¬ P (c ∷ text) n
Takes P c (Some r) =
    IsReading r.parts.now r.value r.state
    × Agree (λ text n. P (c ∷ text) n) (Remains r.parts.now r.value r.state)

-- the empty text may come with this number alone, or it may not come
abbrev pub Ends : (Text → ℕ → Type 0) → Option ℕ → Type 0
Ends P None = (n : ℕ) → ¬ P [] n
Ends P (Some v) = (n : ℕ) → (P [] n → n ≡ v) × (n ≡ v → P [] n)

-- what remains of a reading is what comes after the bytes that were seen
pub record Follows (all : List Part) (seen : Text) (parts : List Part) (value : ℕ) (state : State)
    : Type 0 where
  pub reading : IsReading parts value state
  pub same : (text : Text) (n : ℕ)
      → (Spells all 0 (seen ++ text) n → Remains parts value state text n)
      × (Remains parts value state text n → Spells all 0 (seen ++ text) n)

-- a text of the grammar spells the number; or it is none, and its longest start is `at` long
abbrev pub IsRead : (Text → ℕ → Type 0) → Text → Result ℕ BadAddress → Type 0
IsRead P text (Ok v) = P text v
IsRead P text (Err e) = ((n : ℕ) → ¬ P text n) × IsLongestStart (λ t. (n : ℕ) × P t n) text e.at

-- the texts of version 6 with all groups, and those with `::` after a number of groups, or after
-- any number of them
unfoldable pub SpellsWhole : Bool → Text → ℕ → Type 0
SpellsWhole has_tail text n = Spells (end_parts has_tail (group_count has_tail)) 0 text n

unfoldable pub SpellsBehind : Bool → ℕ → Text → ℕ → Type 0
SpellsBehind has_tail left text n =
    (right : ℕ) × (left + right < group_count has_tail)
    × Spells (shortened_parts has_tail left right) 0 text n

unfoldable pub SpellsShortened : Bool → Text → ℕ → Type 0
SpellsShortened has_tail text n =
    (left : ℕ) × (left < group_count has_tail) × SpellsBehind has_tail left text n

-- none of the first `count` grammars has the text, and none of their texts has a longer start of
-- it than G's `at`
pub record NoneSoFar (P : ℕ → Text → ℕ → Type 0) (G : Text → Type 0) (count : ℕ) (text : Text)
    (at : ℕ) : Type 0 where
  pub within : at ≤ length text
  pub begins : Begins G (take at text)
  pub none : (i : ℕ) → i < count → (n : ℕ) → ¬ P i text n
  pub longest : (i : ℕ) → i < count → (k : ℕ) → at < k → k ≤ length text
      → ¬ Begins (λ t. (n : ℕ) × P i t n) (take k text)

-- the better of two readings: a number, or else the longer start
abbrev pub better_of : Result ℕ BadAddress → Result ℕ BadAddress → Result ℕ BadAddress
better_of (Ok v) b = Ok v
better_of (Err x) (Ok v) = Ok v
better_of (Err x) (Err y) = Err (record { at = max x.at y.at })
