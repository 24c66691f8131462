-- Which of the numbers from a first one on are taken.
use Rattle.std.specs.Prelude.{◌≡◌, ℕ, ◌+◌, ◌<◌, Bool, List, Some, length, slice_get}
use Rattle.api_types.specs.declared.network.NetworkRow.{NetworkRow}
use Rattle.api_ml2.specs.Numbers.{is_taken}

abbrev pub AreMarked : List NetworkRow → ℕ → List Bool → Type 0
AreMarked networks first marks =
    (k : ℕ) → k < length marks → slice_get marks k ≡ Some (is_taken networks (first + k))
