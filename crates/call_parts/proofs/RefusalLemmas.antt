-- Of refusals in order the first ones go before the others.
use Rattle.std.proofs.Common.{◌≡◌, ◌∙◌, List, [], ◌∷◌, ◌++◌, Option, Some, None, ap, inl, inr, refl}
use Rattle.std.specs.Prelude.{Err, Ok, Result}
use Rattle.std.specs.Option.{option_or}
use Rattle.api_types.specs.Refusing.{first_refusal}
use Rattle.api_types.specs.declared.refusal.Refusal.{Refusal}
use Rattle.call_parts.specs.Answers.{IsRefusalIn, Passes}

pub first_joined : (xs ys : List (Option Refusal)) → first_refusal (xs ++ ys) ≡ option_or (first_refusal xs) (first_refusal ys)
first_joined [] ys = refl
first_joined (None ∷ xs) ys = first_joined xs ys
first_joined (Some r ∷ xs) ys = refl

pub refused_first : (x y : Option Refusal) (e : Refusal) → IsRefusalIn x e → IsRefusalIn (option_or x y) e
refused_first x y e (inl memory) = inl memory
refused_first x y e (inr is) = inr (ap (λ o. option_or o y) is)

pub passed_first : (x y : Option Refusal) (result : Result (Unit {0}) Refusal) → x ≡ None → Passes y result → Passes (option_or x y) result
passed_first x y (Ok passed) none is = ap (λ o. option_or o y) none ∙ is
passed_first x y (Err e) none (inl memory) = inl memory
passed_first x y (Err e) none (inr is) = inr (ap (λ o. option_or o y) none ∙ is)
