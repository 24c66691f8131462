-- The texts of addresses, MACs and prefixes: RFC 3986, 3.2.2 (IPv4address), RFC 4291, 2.2 (IPv6
-- addresses, without a zone), RFC 4632, 3.1 (an address, `/`, a length), and IEEE 802 (six pairs
-- of hexadecimal digits with colons).
use Rattle.std.specs.Prelude.{◌≡◌, ℕ, zero, suc, ◌+◌, ◌-◌, ◌*◌, ◌/◌, ◌%◌, ◌^◌, ◌<◌, ◌≤◌, ◌⊎◌, List, [], ◌∷◌, ◌++◌, length, take, Bool, true, false, codes}
use Rattle.std.specs.Char.{digit_value}
use Rattle.std.specs.Fmt.{decimal, digit_glyph}
use Rattle.std.specs.Str.Parse.{AllDigits, digits_value}
use Rattle.net_addr.specs.Addresses.{width}
use Rattle.net_addr.specs.Prefixes.{Written, Prefix}
use Rattle.net_addr.specs.Printing6.{address6_text}
use Rattle.net_addr.specs.Words.{Text}
use Rattle.net_addr.specs.declared.address.Addr.{Addr}
use Rattle.net_addr.specs.declared.address.Addr.TheVariants.{V4, V6}
use Rattle.net_addr.specs.declared.spelling.Part.{Part}
use Rattle.net_addr.specs.declared.spelling.Part.TheVariants.{Number, Digit, Mark, Group, Gap}

-- the text has these parts in order, and n is `start` with their numbers after it: decimal ones
-- in base 2^8, hexadecimal digits in base 2^4, groups of one to four of them in base 2^16, and for
-- a gap that many groups of zeros (`decimal m` is m without leading zeros; `digit_value` reads
-- digits in either case)
unfoldable pub Spells : List Part → ℕ → Text → ℕ → Type 0
Spells [] start text n = (text ≡ []) × (n ≡ start)
Spells (Number top ∷ parts) start text n =
    (m : ℕ) × (rest : Text) × (m ≤ top) × (text ≡ decimal m ++ rest)
    × Spells parts (start * 256 + m) rest n
Spells (Digit ∷ parts) start text n =
    (c : ℕ) × (rest : Text) × (digit_value c < 16) × (text ≡ c ∷ rest)
    × Spells parts (start * 16 + digit_value c) rest n
Spells (Mark c ∷ parts) start text n =
    (rest : Text) × (text ≡ c ∷ rest) × Spells parts start rest n
Spells (Group ∷ parts) start text n =
    (ds : Text) × (rest : Text) × (0 < length ds) × (length ds ≤ 4) × AllDigits 16 ds
    × (text ≡ ds ++ rest)
    × Spells parts (start * 2 ^ 16 + digits_value 16 ds) rest n
Spells (Gap k ∷ parts) start text n =
    (rest : Text) × (text ≡ 58 ∷ rest) × Spells parts (start * 2 ^ (16 * k)) rest n

-- the text has these parts
abbrev pub IsTextOf : List Part → Text → Type 0
IsTextOf parts text = (n : ℕ) × Spells parts 0 text n

-- four decimal numbers to 255 with dots between
abbrev pub address_parts : List Part
address_parts =
    Number 255 ∷ Mark 46 ∷ Number 255 ∷ Mark 46 ∷ Number 255 ∷ Mark 46 ∷ Number 255 ∷ []

-- six pairs of hexadecimal digits with colons between
abbrev pub mac_parts : List Part
mac_parts =
    Digit ∷ Digit ∷ Mark 58 ∷ Digit ∷ Digit ∷ Mark 58 ∷ Digit ∷ Digit ∷ Mark 58
    ∷ Digit ∷ Digit ∷ Mark 58 ∷ Digit ∷ Digit ∷ Mark 58 ∷ Digit ∷ Digit ∷ []

-- a number of groups, each with a colon after it
abbrev pub groups_before : ℕ → List Part
groups_before zero = []
groups_before (suc k) = Group ∷ Mark 58 ∷ groups_before k

-- a number of groups with colons between
abbrev pub row_parts : ℕ → List Part
row_parts zero = []
row_parts (suc k) = groups_before k ++ (Group ∷ [])

-- a number of groups, and an IPv4 text after them if there is a tail
abbrev pub end_parts : Bool → ℕ → List Part
end_parts false k = row_parts k
end_parts true k = groups_before k ++ address_parts

-- how many groups there are: an IPv4 text stands for the last two of eight
abbrev pub group_count : Bool → ℕ
group_count false = 8
group_count true = 6

-- `::` between the groups before and those after, for all the others
abbrev pub shortened_parts : Bool → ℕ → ℕ → List Part
shortened_parts has_tail left right =
    row_parts left
    ++ (Mark 58 ∷ Gap (group_count has_tail - (left + right)) ∷ end_parts has_tail right)

-- the forms of version 6: all groups are written, or `::` stands for one or more groups of zeros
abbrev pub IsForm : List Part → Type 0
IsForm parts =
    (has_tail : Bool)
    × ((parts ≡ end_parts has_tail (group_count has_tail))
    ⊎ ((left : ℕ) × (right : ℕ) × (left + right < group_count has_tail)
    × (parts ≡ shortened_parts has_tail left right)))

-- the text spells the address n
unfoldable pub SpellsAddress : Text → ℕ → Type 0
SpellsAddress text n = Spells address_parts 0 text n

-- the text spells the address n of version 6
unfoldable pub SpellsAddress6 : Text → ℕ → Type 0
SpellsAddress6 text n = (parts : List Part) × IsForm parts × Spells parts 0 text n

-- the text spells the MAC n
unfoldable pub SpellsMac : Text → ℕ → Type 0
SpellsMac text n = Spells mac_parts 0 text n

-- the text spells the address, of its version
abbrev pub SpellsAddr : Text → Addr → Type 0
SpellsAddr text (V4 n) = SpellsAddress text n
SpellsAddr text (V6 n) = SpellsAddress6 text n

-- the text is an address, `/` and a number to 32 or 128
unfoldable pub SpellsCidr : Text → Written → Type 0
SpellsCidr text w =
    (front : Text) × SpellsAddr front w.addr × (w.len ≤ width w.addr)
    × (text ≡ front ++ codes "/" ++ decimal w.len)

-- a text that spells one
abbrev pub IsAddressText : Text → Type 0
IsAddressText text = (n : ℕ) × SpellsAddress text n

abbrev pub IsAddress6Text : Text → Type 0
IsAddress6Text text = (n : ℕ) × SpellsAddress6 text n

abbrev pub IsAddrText : Text → Type 0
IsAddrText text = (a : Addr) × SpellsAddr text a

abbrev pub IsMacText : Text → Type 0
IsMacText text = (n : ℕ) × SpellsMac text n

abbrev pub IsCidrText : Text → Type 0
IsCidrText text = (w : Written) × SpellsCidr text w

-- some text of the grammar begins with this text
abbrev pub Begins : (Text → Type 0) → Text → Type 0
Begins IsText text = (rest : Text) × IsText (text ++ rest)

-- the longest prefix of the text that begins a text of the grammar has length `at`
pub record IsLongestStart (IsText : Text → Type 0) (text : Text) (at : ℕ) : Type 0 where
  pub within : at ≤ length text
  pub begins : Begins IsText (take at text)
  pub longest : (k : ℕ) → at < k → k ≤ length text → ¬ Begins IsText (take k text)

-- the one canonical text of an address
unfoldable pub address_text : ℕ → Text
address_text n =
    decimal (n / 2 ^ 24) ++ codes "." ++ decimal (n / 2 ^ 16 % 256) ++ codes "."
    ++ decimal (n / 2 ^ 8 % 256) ++ codes "." ++ decimal (n % 256)

-- a byte as two hexadecimal digits in lower case
abbrev pub pair_text : ℕ → Text
pair_text b = digit_glyph false (b / 16) ∷ digit_glyph false (b % 16) ∷ []

-- the one canonical text of a MAC
unfoldable pub mac_text : ℕ → Text
mac_text n =
    pair_text (n / 2 ^ 40) ++ codes ":" ++ pair_text (n / 2 ^ 32 % 256) ++ codes ":"
    ++ pair_text (n / 2 ^ 24 % 256) ++ codes ":"
    ++ pair_text (n / 2 ^ 16 % 256) ++ codes ":" ++ pair_text (n / 2 ^ 8 % 256) ++ codes ":"
    ++ pair_text (n % 256)

-- the one printed text of an address of either version
abbrev pub addr_text : Addr → Text
addr_text (V4 n) = address_text n
addr_text (V6 n) = address6_text n

-- the one printed text of a prefix
unfoldable pub prefix_text : Prefix → Text
prefix_text p = addr_text p.base ++ codes "/" ++ decimal p.len
