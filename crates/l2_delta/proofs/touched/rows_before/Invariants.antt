use Rattle.std.proofs.Common.{◌≡◌, ◌++◌, drop, map, slice_get}
use Rattle.std.specs.List.{filter_map}
use Rattle.l2_delta.proofs.touched.rows_before.Given as goal

-- the rows so far, and those with the numbers that are left, are all
abbrev pub invariant-loop-number : goal.invariant-loop-number
invariant-loop-number g l =
    map (λ r. r.now) l.rows.items ++ filter_map (λ k. slice_get l.numbers.rows k) (drop l.number-index l.touched)
    ≡ filter_map (λ k. slice_get l.numbers.rows k) l.touched
