use Rattle.std.proofs.Common.{◌≡◌, drop}
use Rattle.std.specs.Prelude.{◌||◌}
use Rattle.std.specs.HashSet.{contains}
use Rattle.api_types.specs.Ident.{Ident}
use Rattle.api_types.specs.Table.{ident_eq}
use Rattle.touched_rows.specs.TouchedNumbers.{names_any}
use Rattle.touched_rows.proofs.floatings.ids_of.Given as goal

-- those so far, and those of the numbers that are left, are all
abbrev pub invariant-loop-number : goal.invariant-loop-number
invariant-loop-number l =
    (n : Ident) → (contains ident_eq l.ids n || names_any l.routers (drop l.number-index l.numbers) n) ≡ names_any l.routers l.numbers n
