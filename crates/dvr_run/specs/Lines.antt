-- Lines: bytes, each with a line feed at its end.
use Rattle.std.specs.Prelude.{Bool, List, [], flat_map, not, ◌++◌, ◌==◌, ◌∷◌}
use Rattle.std.specs.List.{list_all}
use Rattle.net_addr.specs.Words.{Bytes}

-- bytes without a line feed
abbrev pub is_unbroken : Bytes → Bool
is_unbroken bytes = list_all (λ b. not (b == 10)) bytes

abbrev pub with_feed : Bytes → Bytes
with_feed line = line ++ 10 ∷ []

abbrev pub joined : List Bytes → Bytes
joined lines = flat_map with_feed lines
