use Rattle.std.proofs.Common.{◌≡◌, ◌++◌, drop}
use Rattle.std.specs.HashSet.{contains}
use Rattle.api_types.specs.Table.{ident_eq}
use Rattle.touched_rows.specs.TouchedNumbers.{is_by, numbers_from}
use Rattle.touched_rows.proofs.floatings.add_floatings_by.Given as goal

-- those so far, and those of the floating addresses that are left, are all
abbrev pub invariant-loop-number : goal.invariant-loop-number
invariant-loop-number l =
    l.numbers.items ++ numbers_from (is_by (contains ident_eq l.routers)) l.number (drop l.number l.floatings)
    ≡ l.fn.numbers.items ++ numbers_from (is_by (contains ident_eq l.routers)) 0 l.floatings
