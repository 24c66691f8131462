use Rattle.std.proofs.Common.{◌≡◌, ◌++◌, drop}
use Rattle.std.specs.HashSet.{contains}
use Rattle.api_types.specs.Table.{ident_eq}
use Rattle.touched_rows.specs.TouchedNumbers.{numbers_from}
use Rattle.l2_delta.specs.Filtered.{is_filtered_by}
use Rattle.l2_delta.proofs.filters.add_filtered.Given as goal

-- those so far, and those of the ports that are left, are all
abbrev pub invariant-loop-number : goal.invariant-loop-number
invariant-loop-number l =
    l.numbers.items ++ numbers_from (is_filtered_by l.rows l.host (contains ident_eq l.groups)) l.number (drop l.number l.ports)
    ≡ l.fn.numbers.items ++ numbers_from (is_filtered_by l.rows l.host (contains ident_eq l.groups)) 0 l.ports
