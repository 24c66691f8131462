-- Lists that are cut to a limit.
use Rattle.std.proofs.Common.{◌≡◌, ◌++◌, ◌≤◌, List, [], length, take, Option, None, Some, true, ℕ, ap, sym, ◌∙◌, arith}
use Rattle.std.specs.Prelude.{⊤}
use Rattle.std.proofs.lemmas.Bool.Decides.{nat_tests}
use Rattle.std.proofs.lemmas.List.{append-nil, take_all}
use Rattle.std.proofs.Math.Seq.{take-append_seam}
use Rattle.api_types.proofs.ListLemmas.{false_true}
use Rattle.api_policy.specs.Listed.{cut, is_full}

-- so many are no more than the limit
abbrev pub Within : Option ℕ → ℕ → Type 0
Within None many = ⊤
Within (Some n) many = many ≤ n

-- a list within the limit isn't cut
pub whole : {X : Type 0} (limit : Option ℕ) (xs all : List X) → xs ++ [] ≡ all → Within limit (length xs) → xs ≡ cut limit all
whole None xs all is within = sym (append-nil xs) ∙ is
whole (Some n) xs all is within = sym (take_all n xs within) ∙ ap (take n) (sym (append-nil xs) ∙ is)

-- the first ones, as many as the limit
pub front : {X : Type 0} (limit : Option ℕ) (xs ys all : List X) → xs ++ ys ≡ all → Within limit (length xs) → is_full limit (length xs) ≡ true → xs ≡ cut limit all
front None xs ys all is within full = false_true _ full
front (Some n) xs ys all is within full =
    let as_many : length xs ≡ n = grind (arith, nat_tests) in
    sym (take-append_seam xs ys) ∙ ap (λ k. take k (xs ++ ys)) as_many ∙ ap (take n) is
