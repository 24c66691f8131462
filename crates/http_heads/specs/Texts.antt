-- Names for what lists of numbers mean.
use Rattle.std.specs.Prelude.{ℕ, List}

-- a word of a head: a method, or the name or value of a field, as its bytes (RFC 9110, section 5)
abbrev pub Text : Type 0
Text = List ℕ

-- bytes as they are read
abbrev pub Bytes : Type 0
Bytes = List ℕ
