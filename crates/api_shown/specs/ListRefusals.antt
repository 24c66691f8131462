-- Why a list is refused: a marker by its text, and only where it is no row of the kind that the
-- caller sees.
use Rattle.std.specs.Prelude.{◌≡◌, false, Option, Some, option_map}
use Rattle.api_types.specs.RowLists.{RowLists}
use Rattle.api_types.specs.declared.call.Caller.{Caller}
use Rattle.api_types.specs.declared.call.IdText.{IdText}
use Rattle.api_types.specs.declared.kind.Kind.{Kind}
use Rattle.api_shown.specs.declared.listing.ListRefusal.{ListRefusal}
use Rattle.api_shown.specs.declared.listing.ListRefusal.TheVariants.{NoMarker, OutOfMemory}
use Rattle.api_policy.specs.Listed.{has_marker}

-- a marker is refused by its text, and only where it is no such row; out of memory says nothing
abbrev pub IsListRefusal : RowLists → Caller → Kind → Option IdText → ListRefusal → Type 0
IsListRefusal rows caller kind marker (NoMarker text) =
    (has_marker rows caller kind marker ≡ false)
    × (option_map (λ (m : IdText). m.text) marker ≡ Some text)
IsListRefusal rows caller kind marker OutOfMemory = Unit {0}
