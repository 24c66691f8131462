use Rattle.std.proofs.Common.{◌≡◌, ℕ, List, drop}
use Rattle.std.specs.Prelude.{◌||◌}
use Rattle.std.specs.HashSet.{contains_text}
use Rattle.api_types.specs.Printed.{word}
use Rattle.api_shown.specs.Asked.{asked_under, asks_for}
use Rattle.api_shown.proofs.filtering.texts_of.Given as goal

-- a text is there, or is asked for by the filters that are left, where all ask for it
abbrev pub invariant-loop-filter : goal.invariant-loop-filter
invariant-loop-filter l = (t : List ℕ)
    → (contains_text l.texts t || asks_for (asked_under (drop l.filter-index l.filters) l.name) (word t))
    ≡ asks_for (asked_under l.filters l.name) (word t)
