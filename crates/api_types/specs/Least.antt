-- The least number that passes a test.
use Rattle.std.specs.Prelude.{Bool, None, Option, Some, false, suc, true, zero, ℕ, ◌+◌}

-- the least of `count` numbers from the first on that passes the test; no further one is tried
unfoldable pub least_from : (ℕ → Bool) → ℕ → ℕ → Option ℕ
least_from test first zero = None
least_from test first (suc many) =
    elim (test first) [ true ↦ Some first | false ↦ least_from test (first + 1) many ]
