-- What holds of the rows so far, and of one more, holds of one more than those so far.
use Rattle.std.proofs.Common.{◌≡◌, ◌∙◌, ◌+◌, ◌<◌, ◌++◌, ◌∷◌, [], ℕ, List, ap, arith, get_or, length, subst, suc, sym, take}
use Rattle.std.proofs.Math.Seq.{take-suc}
use Rattle.api_types.specs.Lists.{Each}
use Rattle.api_types.proofs.ListLemmas.{each-push}

pub one_more : {R : Type 0} (P : R → Type 0) (xs : List R) (i : ℕ) (r : R) → i < length xs → r ≡ get_or xs i r → P r → Each P (take i xs) → Each P (take (i + 1) xs)
one_more P xs i r within is p all =
    let next : i + 1 ≡ suc i = omega arith in
    subst (Each P) (sym (ap (λ k. take k xs) next ∙ take-suc xs i r within ∙ ap (λ x. take i xs ++ x ∷ []) (sym is))) (each-push P (take i xs) r all p)
