-- In which part of a list the elements stand that pass a test, where the part was found before
-- elements were put in and taken out: none is before it, and none after it.
use Rattle.std.specs.Prelude.{◌≡◌, ℕ, ◌+◌, ◌-◌, ◌^◌, ◌<◌, ◌≤◌, max, min, Bool, List, [], Option, Some, None, take, drop}
use Rattle.std.specs.List.{filter}
use Rattle.plane_types.specs.declared.run.Run.{Run}

pub record IsRun {X : Type 0} (test : X → Bool) (xs : List X) (wide lost : ℕ) (r : Run)
    : Type 0 where
  pub order : r.start ≤ r.end
  pub low : r.start < 2 ^ 64
  pub before : filter test (take (r.start - lost) xs) ≡ []
  pub after : filter test (drop (r.end + wide) xs) ≡ []

-- where no part is told, none passes
abbrev pub IsRunOf : {X : Type 0} → (X → Bool) → List X → ℕ → ℕ → Option Run → Type 0
IsRunOf test xs wide lost None = filter test xs ≡ []
IsRunOf test xs wide lost (Some r) = IsRun test xs wide lost r

-- with a place in it too, or that place alone
abbrev pub run_with : ℕ → Option Run → Run
run_with place None = record { start = place; end = place + 1 }
run_with place (Some r) = record { start = min r.start place; end = max r.end (place + 1) }

-- a count that is one more, or the greatest number of a word where that is past it
abbrev pub IsOneMore : ℕ → ℕ → Type 0
IsOneMore old new = (n : ℕ) → n ≤ old + 1 → n < 2 ^ 64 → n ≤ new
