-- Why bytes are refused, by the numbers of refused heads.
use Rattle.std.specs.Prelude.{ℕ}
use Rattle.http_session.specs.declared.bad_bytes.BadBytes.{BadBytes}
use Rattle.http_session.specs.declared.bad_bytes.BadBytes.TheVariants.{Malformed, HeadLarge, BodyLarge, NoLength}

abbrev pub bad_number : BadBytes → ℕ
bad_number Malformed = 1
bad_number HeadLarge = 2
bad_number BodyLarge = 3
bad_number NoLength = 4
