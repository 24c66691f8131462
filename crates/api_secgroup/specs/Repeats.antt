-- Sorted prefixes without repeats.
use Rattle.std.specs.Prelude.{Bool, false, List, [], ◌∷◌, if◌then◌else◌}
use Rattle.net_addr.specs.Prefixes.{Prefix}
use Rattle.api_types.specs.Consistent.Groups.{prefix_eq}

abbrev pub begins_with : Prefix → List Prefix → Bool
begins_with p [] = false
begins_with p (q ∷ qs) = prefix_eq p q

-- of neighbours that are the same, the last
unfoldable pub without_repeats : List Prefix → List Prefix
without_repeats [] = []
without_repeats (p ∷ ps) = if begins_with p ps then without_repeats ps else p ∷ without_repeats ps
