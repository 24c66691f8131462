-- What a check answers: nothing where a definition gives nothing, and otherwise what it gives.
use Rattle.api_types.specs.declared.refusal.Refusal.{Refusal}
use Rattle.std.specs.Prelude.{Err, None, Ok, Option, Result, Some, ◌≡◌}

abbrev pub IsAnswerOf : Option Refusal → Result (Unit {0}) Refusal → Type 0
IsAnswerOf refusal (Ok passed) = refusal ≡ None
IsAnswerOf refusal (Err e) = refusal ≡ Some e
