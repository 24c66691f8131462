-- How many rows each project owns, as a map.
use Rattle.std.specs.Prelude.{ℕ, if◌then◌else◌, bytes_eq}
use Rattle.std.specs.HashMap.{HashMap, get}
use Rattle.std.specs.Map.{count_at}
use Rattle.net_addr.specs.Words.{Text}

-- the count of a project; none is 0
abbrev pub count_in : {S : Type 0} → HashMap Text ℕ S → Text → ℕ
count_in counts project = count_at (get bytes_eq counts) project

-- one at the project, and nothing at others
abbrev pub one_at : Text → Text → ℕ
one_at project other = if bytes_eq project other then 1 else 0
