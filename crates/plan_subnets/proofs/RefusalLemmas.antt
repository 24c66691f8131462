-- What three refusals in order come to, and two.
use Rattle.std.proofs.Common.{◌≡◌, ◌∙◌, [], ◌∷◌, Option, None, ap, inl, inr}
use Rattle.api_types.specs.Refusing.{first_refusal}
use Rattle.api_types.specs.declared.refusal.Refusal.{Refusal}
use Rattle.std.specs.Prelude.{Err, Ok, Result}
use Rattle.std.specs.Option.{option_or}
use Rattle.api_policy.specs.Checks.{IsAnswerOf}
use Rattle.call_parts.specs.Answers.{IsRefusalIn, Passes}

module _ (a b c : Option Refusal) where
  pub first_in : (e : Refusal) → IsRefusalIn a e → IsRefusalIn (first_refusal (a ∷ b ∷ c ∷ [])) e
  first_in e (inl memory) = inl memory
  first_in e (inr is) = inr (ap (λ o. first_refusal (o ∷ b ∷ c ∷ [])) is)

  pub second_in : (e : Refusal) → a ≡ None → IsRefusalIn b e → IsRefusalIn (first_refusal (a ∷ b ∷ c ∷ [])) e
  second_in e none (inl memory) = inl memory
  second_in e none (inr is) = inr (ap (λ o. first_refusal (o ∷ b ∷ c ∷ [])) none ∙ ap (λ o. first_refusal (o ∷ c ∷ [])) is)

  pub third_in : (e : Refusal) → a ≡ None → b ≡ None → IsRefusalIn c e → IsRefusalIn (first_refusal (a ∷ b ∷ c ∷ [])) e
  third_in e none nor (inl memory) = inl memory
  third_in e none nor (inr is) = inr (ap (λ o. first_refusal (o ∷ b ∷ c ∷ [])) none ∙ (ap (λ o. first_refusal (o ∷ c ∷ [])) nor ∙ ap (λ o. first_refusal (o ∷ [])) is))

  pub none_in : a ≡ None → b ≡ None → c ≡ None → first_refusal (a ∷ b ∷ c ∷ []) ≡ None
  none_in none nor neither = ap (λ o. first_refusal (o ∷ b ∷ c ∷ [])) none ∙ (ap (λ o. first_refusal (o ∷ c ∷ [])) nor ∙ ap (λ o. first_refusal (o ∷ [])) neither)

pub passed_first : (x y : Option Refusal) (result : Result (Unit {0}) Refusal) → x ≡ None → IsAnswerOf y result → Passes (option_or x y) result
passed_first x y (Ok passed) none is = ap (λ o. option_or o y) none ∙ is
passed_first x y (Err e) none is = inr (ap (λ o. option_or o y) none ∙ is)
