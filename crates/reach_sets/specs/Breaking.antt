-- Inner: the least number that breaks a table.
use Rattle.std.specs.Prelude.{◌≡◌, ℕ, ◌<◌, true, Option, Some, None}
use Rattle.api_types.specs.RowLists.{RowLists}
use Rattle.plane_types.specs.Ends.{source}
use Rattle.reach_laws.specs.Numbers.{is_number}
use Rattle.reach_sets.specs.Judged.{Breaks, IsAgainst}
use Rattle.reach_sets.specs.TwoPorts.{ReachesBetween, TwoPorts}
use Rattle.wanted_files.specs.declared.wanted.WantedReach.{WantedReach}

-- a number of the kind that is against what is wanted, wherever it is
abbrev pub IsNumberAgainst : RowLists → TwoPorts → WantedReach → ℕ → Type 0
IsNumberAgainst rows x w d =
    (is_number w.proto (source x.ends) d ≡ true) × IsAgainst w.want (ReachesBetween rows x w.proto d)

abbrev pub IsFirstBreak : RowLists → TwoPorts → WantedReach → Option ℕ → Type 0
IsFirstBreak rows x w None = (d : ℕ) → Breaks rows x w d → ⊥
IsFirstBreak rows x w (Some d) =
    Breaks rows x w d × ((e : ℕ) → e < d → Breaks rows x w e → ⊥)
