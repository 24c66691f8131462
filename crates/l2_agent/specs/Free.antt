-- Tags that aren't kept.
use Rattle.std.specs.Prelude.{ℕ, ◌-◌, Bool, not, List, nat_eq}
use Rattle.std.specs.List.{filter}
use Rattle.std.specs.HashSet.{HashSet, contains}
use Rattle.plane_types.specs.NewTags.{numbers}

abbrev pub is_left : {S : Type 0} → HashSet ℕ S → ℕ → Bool
is_left kept tag = not (contains nat_eq kept tag)

-- those from one on that are none of these, ascending, up to 4094
abbrev pub free_from : {S : Type 0} → HashSet ℕ S → ℕ → List ℕ
free_from kept first = filter (is_left kept) (numbers first (4095 - first))
