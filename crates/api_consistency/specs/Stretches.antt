-- Numbers in a row that holders have in groups, and which of them meet.
use Rattle.std.specs.Prelude.{◌==◌, ◌&&◌, ◌||◌, not, nat_lt, nat_le, Bool, true, List, [], ◌∷◌}
use Rattle.api_consistency.specs.declared.stretch.Stretch.{Stretch}

-- both are of one group, and some number is in both
abbrev pub meet : Stretch → Stretch → Bool
meet a b = (a.group == b.group) && (nat_le a.first b.last && nat_le b.first a.last)

-- they meet, and two holders have them
abbrev pub clash : Stretch → Stretch → Bool
clash a b = meet a b && not (a.holder == b.holder)

-- the second isn't empty, and comes after the first: in a later group, or beyond its end
abbrev pub is_before : Stretch → Stretch → Bool
is_before a b =
    nat_le b.first b.last
    && (nat_lt a.group b.group || ((a.group == b.group) && nat_lt a.last b.first))

abbrev pub is_same : Stretch → Stretch → Bool
is_same a b =
    (a.group == b.group) && (a.first == b.first) && (a.last == b.last) && (a.holder == b.holder)

abbrev pub is_before_or_same : Stretch → Stretch → Bool
is_before_or_same a b = is_before a b || is_same a b

-- whether one stands so to the first of the others
abbrev pub goes_first : (Stretch → Stretch → Bool) → Stretch → List Stretch → Bool
goes_first stands a [] = true
goes_first stands a (b ∷ rest) = stands a b

-- whether each stands so to the next one
unfoldable pub follow : (Stretch → Stretch → Bool) → List Stretch → Bool
follow stands [] = true
follow stands (a ∷ rest) = goes_first stands a rest && follow stands rest
