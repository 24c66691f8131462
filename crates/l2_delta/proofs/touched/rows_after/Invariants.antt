use Rattle.std.proofs.Common.{◌≡◌, ◌++◌, drop, map}
use Rattle.std.specs.List.{filter_map}
use Rattle.table_edits.specs.NumbersSeen.{at_after}
use Rattle.l2_delta.proofs.touched.rows_after.Given as goal

-- the rows so far, and those with the numbers that are left, are all
abbrev pub invariant-loop-number : goal.invariant-loop-number
invariant-loop-number g l =
    map (λ r. r.now) l.rows.items ++ filter_map (at_after l.numbers) (drop l.number-index l.touched)
    ≡ filter_map (at_after l.numbers) l.touched
