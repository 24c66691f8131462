-- The one printed text of an IPv6 address (RFC 5952): groups in lower-case hexadecimal digits
-- without leading zeros, the first longest run of two or more zero groups as `::`, and never an
-- IPv4 tail.
use Rattle.std.specs.Prelude.{ℕ, zero, suc, ◌+◌, ◌/◌, ◌%◌, ◌^◌, List, [], ◌∷◌, ◌++◌, take, drop, nat_le, nat_lt, codes, false, if◌then◌else◌}
use Rattle.std.specs.Fmt.{digits}
use Rattle.net_addr.specs.Words.{Text}

-- the eight groups of 16 bits
unfoldable pub groups : ℕ → List ℕ
groups n =
    n / 2 ^ 112 ∷ n / 2 ^ 96 % 2 ^ 16 ∷ n / 2 ^ 80 % 2 ^ 16 ∷ n / 2 ^ 64 % 2 ^ 16
    ∷ n / 2 ^ 48 % 2 ^ 16 ∷ n / 2 ^ 32 % 2 ^ 16
    ∷ n / 2 ^ 16 % 2 ^ 16 ∷ n % 2 ^ 16 ∷ []

-- some groups in a row
pub record Run : Type 0 where
  pub at : ℕ
  pub len : ℕ

-- with how many zeros a list begins
abbrev pub zeros : List ℕ → ℕ
zeros [] = 0
zeros (zero ∷ gs) = zeros gs + 1
zeros (suc g ∷ gs) = 0

-- the longer of two runs, the first of equal ones
abbrev pub longer : Run → Run → Run
longer a b = if nat_le b.len a.len then a else b

-- the first longest run of zeros, where the list begins at place `at`
abbrev pub longest : ℕ → List ℕ → Run
longest at [] = record { at = at; len = 0 }
longest at (g ∷ gs) = longer (record { at = at; len = zeros (g ∷ gs) }) (longest (at + 1) gs)

-- groups, each after a colon
abbrev pub more_text : List ℕ → Text
more_text [] = []
more_text (g ∷ gs) = codes ":" ++ digits 16 false g ++ more_text gs

-- groups with colons between
abbrev pub row_text : List ℕ → Text
row_text [] = []
row_text (g ∷ gs) = digits 16 false g ++ more_text gs

-- with a run of two or more left out
abbrev pub short_text : List ℕ → Run → Text
short_text gs run =
    if nat_lt run.len 2 then row_text gs
    else row_text (take run.at gs) ++ codes "::" ++ row_text (drop (run.at + run.len) gs)

unfoldable pub address6_text : ℕ → Text
address6_text n = short_text (groups n) (longest 0 (groups n))
