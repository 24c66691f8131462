use Rattle.std.proofs.Common.{◌≡◌, ◌+◌, ◌-◌, length, not}
use Rattle.api_types.specs.Least.{least_from}
use Rattle.api_ml2.specs.Numbers.{is_taken}
use Rattle.api_ml2.proofs.numbers.least_unmarked.Given as goal

-- the search goes on as it began
abbrev pub invariant-loop-i : goal.invariant-loop-i
invariant-loop-i l =
    least_from (λ n. not (is_taken l.networks n)) (l.first + l.i) (length l.marks - l.i)
    ≡ least_from (λ n. not (is_taken l.networks n)) l.first (length l.marks)
