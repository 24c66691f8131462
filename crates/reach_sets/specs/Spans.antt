-- Sets of numbers as lists of spans.
use Rattle.std.specs.Prelude.{ℕ, suc, ◌<◌, ◌≤◌, ◌&&◌, nat_le, Bool, List, [], ◌∷◌, ⊤}
use Rattle.std.specs.List.{list_any}
use Rattle.reach_sets.specs.declared.spans.Span.{Span}

-- from the first to the last
abbrev pub is_in : ℕ → Span → Bool
is_in d s = nat_le s.first d && nat_le d s.last

abbrev pub in_spans : ℕ → List Span → Bool
in_spans d spans = list_any (is_in d) spans

-- ascending, and between two of them there is a number that is in none
abbrev pub AreApart : List Span → Type 0
AreApart [] = ⊤
AreApart (s ∷ []) = s.first ≤ s.last
AreApart (s ∷ t ∷ spans) = (s.first ≤ s.last) × (suc s.last < t.first) × AreApart (t ∷ spans)
