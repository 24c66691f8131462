-- The first place at which a row fails a test that looks at its place.
use Rattle.std.proofs.Common.{◌≡◌, ℕ, ◌+◌, ◌<◌, ◌≤◌, zero, suc, List, [], ◌∷◌, Bool, true, false, cond, Option, Some, None, length, drop, get_or, drop-cons, add-one, refl, ap, sym, ◌∙◌, arith}
use Rattle.std.specs.Prelude.{not, nat_lt, position}
use Rattle.std.specs.List.{position_or_len}
use Rattle.std.proofs.lemmas.Bool.Decides.{nat_tests}
use Rattle.api_check.specs.Broken.{first_place}

-- a loop that looks at place after place
pub place_here : {R : Type 0} (test : ℕ → R → Bool) (rows : List R) (i : ℕ) (d : R) → i < length rows → test i (get_or rows i d) ≡ false → first_place test i (drop i rows) ≡ Some i
unfolding first_place
place_here test rows i d within fails = ap (first_place test i) (drop-cons rows i d within) ∙ ap (λ b. cond b (first_place test (i + 1) (drop (suc i) rows)) (Some i)) fails

pub place_next : {R : Type 0} (test : ℕ → R → Bool) (rows : List R) (i : ℕ) (d : R) → i < length rows → test i (get_or rows i d) ≡ true → first_place test (i + 1) (drop (i + 1) rows) ≡ first_place test i (drop i rows)
unfolding first_place
place_next test rows i d within passes =
    ap (λ m. first_place test (i + 1) (drop m rows)) (add-one i)
    ∙ sym (ap (first_place test i) (drop-cons rows i d within) ∙ ap (λ b. cond b (first_place test (i + 1) (drop (suc i) rows)) (Some i)) passes)

pub place_end : {R : Type 0} (test : ℕ → R → Bool) (rows : List R) (i : ℕ) → length rows ≤ i → first_place test i (drop i rows) ≡ None
unfolding first_place
place_end test rows i past = by rows i i past
  where
    by : (xs : List _) (k i : ℕ) → length xs ≤ k → first_place test i (drop k xs) ≡ None
    by [] zero i h = refl
    by [] (suc k) i h = refl
    by (x ∷ xs) zero i h = absurd (omega (arith, h))
    by (x ∷ xs) (suc k) i h = by xs k i (omega (arith, h))

-- `position` finds the same
pub position_first : {R : Type 0} (test : R → Bool) (rows : List R) → position (λ r. not (test r)) rows ≡ first_place (λ k. test) 0 rows
unfolding first_place
position_first test rows = sym (by rows 0 ∙ ap (λ n. cond {A = Option ℕ} (nat_lt (position_or_len (λ r. not (test r)) rows) (length rows)) (Some n) None) (none_before (position_or_len (λ r. not (test r)) rows)))
  where
    none_before : (n : ℕ) → 0 + n ≡ n
    none_before n = omega arith

    longer : (a b : ℕ) → nat_lt (1 + a) (suc b) ≡ nat_lt a b
    longer a b = grind (arith, nat_tests)

    first : (a : ℕ) → nat_lt 0 (suc a) ≡ true
    first a = grind (arith, nat_tests)

    found : (n k : ℕ) (m : ℕ) → cond {A = Option ℕ} (nat_lt n m) (Some ((k + 1) + n)) None ≡ cond {A = Option ℕ} (nat_lt (1 + n) (suc m)) (Some (k + (1 + n))) None
    found n k m = let e : (k + 1) + n ≡ k + (1 + n) = omega arith in λ j. cond {A = Option ℕ} (sym (longer n m) j) (Some (e j)) None

    here : (k m : ℕ) → Some k ≡ cond {A = Option ℕ} (nat_lt 0 (suc m)) (Some (k + 0)) None
    here k m = let e : k ≡ k + 0 = omega arith in ap Some e ∙ sym (ap (λ b. cond {A = Option ℕ} b (Some (k + 0)) None) (first m))

    by : (xs : List _) (k : ℕ) → first_place (λ k. test) k xs ≡ cond {A = Option ℕ} (nat_lt (position_or_len (λ r. not (test r)) xs) (length xs)) (Some (k + position_or_len (λ r. not (test r)) xs)) None
    by [] k = refl
    by (x ∷ xs) k = split (test x) (by xs (k + 1))
      where
        split : (b : Bool) → first_place (λ k. test) (k + 1) xs ≡ cond {A = Option ℕ} (nat_lt (position_or_len (λ r. not (test r)) xs) (length xs)) (Some ((k + 1) + position_or_len (λ r. not (test r)) xs)) None
            → cond b (first_place (λ k. test) (k + 1) xs) (Some k)
            ≡ cond {A = Option ℕ} (nat_lt (cond (not (not b)) (1 + position_or_len (λ r. not (test r)) xs) 0) (suc (length xs))) (Some (k + cond (not (not b)) (1 + position_or_len (λ r. not (test r)) xs) 0)) None
        split true rest = rest ∙ found (position_or_len (λ r. not (test r)) xs) k (length xs)
        split false rest = here k (length xs)
