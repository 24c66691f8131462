-- What the API machine is: rows with a version.
use Rattle.std.specs.Prelude.{ℕ, ◌-◌, ◌^◌, ◌==◌, Bool, Option, None, if◌then◌else◌}
use Rattle.net_addr.specs.Words.{Text, Version}
use Rattle.api_types.specs.RowLists.{RowLists}
use Rattle.api_types.specs.Registration.{Drawing, draw_of}

pub record State : Type 0 where
  pub rows : RowLists
  -- how many changes were accepted
  pub version : Version

-- the version can't rise
abbrev pub is_last : State → Bool
is_last state = state.version == (2 ^ 64 - 1)

-- this many ids drawn for the project; none where the version, a count or the projects' ordinals
-- would pass their last value
abbrev pub drawing_at : State → Text → ℕ → Option Drawing
drawing_at state project many = if is_last state then None else draw_of state.rows project many
