-- Numbers in paths.
use Rattle.std.specs.Prelude.{ℕ, ◌^◌, nat_lt, Option, Some, None, if◌then◌else◌}
use Rattle.net_addr.specs.Words.{Text}
use Rattle.http_heads.specs.Numbers.{number_in}

abbrev pub below_2_64 : Option ℕ → Option ℕ
below_2_64 None = None
below_2_64 (Some n) = if nat_lt n (2 ^ 64) then Some n else None

-- the number that 1 to 20 digits write, if it is below 2^64
abbrev pub path_number : Text → Option ℕ
path_number text = below_2_64 (number_in 20 text)
