-- A list that is being put in the place of another, from its front on.
use Rattle.std.proofs.Common.{inl, inr, ◌⊎◌, ◌≡◌, ℕ, zero, suc, ◌+◌, ◌<◌, ◌≤◌, List, [], ◌∷◌, Some, refl, ap, sym, subst, ◌∙◌, arith, length, slice_get, slice_set}
use Rattle.std.proofs.lemmas.Bool.{cases_order}
use Rattle.std.proofs.lemmas.List.{length-set}
use Rattle.std.proofs.lemmas.Option.{slice_get_within}
use Rattle.api_types.proofs.ListLemmas.{some_equal}

-- a list in the place of another: each item comes of that at its place
pub record Stepwise {S : Type 0} (step : ℕ → S → S → Type 0) (old new : List S) : Type 0 where
  pub length : length new ≡ length old
  pub each : (k : ℕ) (x y : S) → slice_get old k ≡ Some x → slice_get new k ≡ Some y → step k x y

-- the items in front of a place come of those at their places, and the others are as they were
pub record SoFar {S : Type 0} (step : ℕ → S → S → Type 0) (old items : List S) (place : ℕ) : Type 0 where
  pub size : length items ≡ length old
  pub done : (k : ℕ) (x y : S) → k < place → slice_get old k ≡ Some x → slice_get items k ≡ Some y → step k x y
  pub left : (k : ℕ) → place ≤ k → slice_get items k ≡ slice_get old k

module _ {S : Type 0} where
  -- what is at a place of a list in which another place was written
  written : (xs : List S) (i : ℕ) (z : S) (k : ℕ) → i < length xs → k ≡ i → slice_get (slice_set xs i z) k ≡ Some z
  written [] i z k h same = absurd (omega (arith, h))
  written (x ∷ xs) zero z zero h same = refl
  written (x ∷ xs) zero z (suc k) h same = absurd (omega (arith, same))
  written (x ∷ xs) (suc i) z zero h same = absurd (omega (arith, same))
  written (x ∷ xs) (suc i) z (suc k) h same = written xs i z k (omega (arith, h)) (omega (arith, same))

  pub unwritten : (xs : List S) (i : ℕ) (z : S) (k : ℕ) → (k ≡ i → ⊥) → slice_get (slice_set xs i z) k ≡ slice_get xs k
  unwritten [] i z k other = refl
  unwritten (x ∷ xs) zero z zero other = absurd (other refl)
  unwritten (x ∷ xs) zero z (suc k) other = refl
  unwritten (x ∷ xs) (suc i) z zero other = refl
  unwritten (x ∷ xs) (suc i) z (suc k) other = unwritten xs i z k (λ h. other (ap suc h))

  pub at_first : (step : ℕ → S → S → Type 0) (old : List S) → SoFar step old old 0
  at_first step old = record { size = refl; done = λ k x y h a b. absurd (omega (arith, h)); left = λ k h. refl }

  pub one_more : (step : ℕ → S → S → Type 0) (old items : List S) (i : ℕ) (x y : S) → SoFar step old items i → slice_get items i ≡ Some x → step i x y → SoFar step old (slice_set items i y) (i + 1)
  one_more step old items i x y s at goes = record {
    size = length-set items i y ∙ s.size;
    done = λ k a b h from to. here k a b from to (cases_order k i) h;
    left = λ k h. unwritten items i y k (λ e. omega (arith, e, h)) ∙ s.left k (omega (arith, h));
  }
    where
      here : (k : ℕ) (a b : S) → slice_get old k ≡ Some a → slice_get (slice_set items i y) k ≡ Some b → (k ≡ i) ⊎ ((k < i) ⊎ (i < k)) → k < i + 1 → step k a b
      here k a b from to (inl same) h =
          let x_is : x ≡ a = some_equal x a (sym at ∙ s.left i (omega arith) ∙ ap (slice_get old) (sym same) ∙ from) in
          let y_is : y ≡ b = some_equal y b (sym (written items i y k (slice_get_within items i x at) same) ∙ to) in
          subst (λ n. step n a b) (sym same) (subst (step i a) y_is (subst (λ c. step i c y) x_is goes))
      here k a b from to (inr (inl less)) h = s.done k a b less from (sym (unwritten items i y k (λ e. omega (arith, e, less))) ∙ to)
      here k a b from to (inr (inr more)) h = absurd (omega (arith, more, h))

  pub at_last : (step : ℕ → S → S → Type 0) (old items : List S) (i : ℕ) → SoFar step old items i → length items ≤ i → Stepwise step old items
  at_last step old items i s end = record {
    length = s.size;
    each = λ k a b from to. let within = slice_get_within items k b to in s.done k a b (omega (arith, within, end)) from to;
  }

  -- what holds of each item before a place holds of each before the next
  pub each_more : (P : S → Type 0) (xs : List S) (i : ℕ) (z : S) → ((k : ℕ) (x : S) → k < i → slice_get xs k ≡ Some x → P x) → P z → i < length xs
      → (k : ℕ) (x : S) → k < i + 1 → slice_get (slice_set xs i z) k ≡ Some x → P x
  each_more P xs i z all one within k x h at = by (cases_order k i)
    where
      by : (k ≡ i) ⊎ ((k < i) ⊎ (i < k)) → P x
      by (inl same) = subst P (some_equal z x (sym (written xs i z k within same) ∙ at)) one
      by (inr (inl less)) = all k x less (sym (unwritten xs i z k (λ e. omega (arith, e, less))) ∙ at)
      by (inr (inr more)) = absurd (omega (arith, more, h))
