-- A check whose definition is another one's.
use Rattle.std.proofs.Common.{◌≡◌, ◌∙◌, List, ◌∷◌, Option, None, inr, subst, sym}
use Rattle.api_types.specs.Refusing.{first_refusal}
use Rattle.api_types.specs.declared.refusal.Refusal.{Refusal}
use Rattle.std.specs.Prelude.{Err, Ok, Result}
use Rattle.api_policy.specs.Checks.{IsAnswerOf}
use Rattle.call_parts.specs.Answers.{Passes}

-- a check that takes no memory answers it, where that is the same refusal
pub passes_if : (x y : Option Refusal) (result : Result (Unit {0}) Refusal) → x ≡ y → IsAnswerOf x result → Passes y result
passes_if x y (Ok passed) same is = sym same ∙ is
passes_if x y (Err e) same is = inr (sym same ∙ is)

-- where the first two refuse nothing, the rest decides
pub third_decides : (one two : Option Refusal) (rest : List (Option Refusal)) (result : Result (Unit {0}) Refusal) → one ≡ None → two ≡ None → IsAnswerOf (first_refusal rest) result
    → IsAnswerOf (first_refusal (one ∷ two ∷ rest)) result
third_decides one two rest result first second decides =
    subst (λ x. IsAnswerOf (first_refusal (x ∷ two ∷ rest)) result) (sym first) (subst (λ x. IsAnswerOf (first_refusal (None ∷ x ∷ rest)) result) (sym second) decides)
