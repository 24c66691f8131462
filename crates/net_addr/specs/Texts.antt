-- The bytes of a text, wherever they are kept.
use Rattle.std.specs.Prelude.{ℕ, List, string_bytes}
use Rattle.net_addr.specs.declared.text.Place.{Place}
use Rattle.net_addr.specs.declared.text.Place.TheVariants.{Inline, Apart}

abbrev pub bytes_at : Place → List ℕ
bytes_at (Inline text) = text.bytes
bytes_at (Apart text) = string_bytes text
