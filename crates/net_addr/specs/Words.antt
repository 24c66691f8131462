-- Words for what is a list of numbers, or a number, to contracts.
use Rattle.std.specs.Prelude.{ℕ, List}

-- a text, as its bytes in UTF-8
abbrev pub Text : Type 0
Text = List ℕ

-- bytes that need be no text
abbrev pub Bytes : Type 0
Bytes = List ℕ

-- a MAC address, a number below 2^48
abbrev pub MacAddress : Type 0
MacAddress = ℕ

-- a version of rows, which is the number of the change that led to it
abbrev pub Version : Type 0
Version = ℕ
