-- An item that is put in its place in a list that ascends.
use Rattle.std.proofs.Common.{◌≡◌, ◌∙◌, ℕ, zero, suc, ◌≤◌, List, [], ◌∷◌, length, get_or, Bool, true, false, true≢false, refl, sym, ap, subst, arith}
use Rattle.std.specs.Cmp.{IsStrictWeakOrder}
use Rattle.std.specs.List.{insert}
use Rattle.std.specs.List.Sorted.{IsPartitionedBy, IsPartitionPoint, IsSortedBy}
use Rattle.std.proofs.lemmas.List.Sorted.{sorted_far}
use Rattle.api_types.specs.Ascending.{ascending, put_in}
use Rattle.api_types.proofs.SortLemmas.{ascending_sorted, sorted_is_ascending}

module _ {X : Type 0} (before : X → X → Bool) (order : IsStrictWeakOrder before) where
  pub put_sorted : (x : X) (xs : List X) → IsSortedBy before xs → IsSortedBy before (put_in before x xs)
  unfolding ascending
  put_sorted x xs up =
      let same : xs ≡ ascending before xs = sorted_is_ascending before order xs xs up (λ w. refl) in
      subst (λ ys. IsSortedBy before (put_in before x ys)) (sym same) (ascending_sorted before order (x ∷ xs))

  -- those before it come first
  pub partitioned : (x : X) (xs : List X) → IsSortedBy before xs → IsPartitionedBy (λ y. before y x) xs
  partitioned x xs up i j d low within passes = go (before (get_or xs i d) x) refl
    where
      go : (b : Bool) → before (get_or xs i d) x ≡ b → before (get_or xs i d) x ≡ true
      go true e = e
      go false e = absurd (true≢false (sym passes ∙ order.chain (get_or xs j d) (get_or xs i d) x (sorted_far before order xs up i j d low within) e))

  abbrev pub IsPlace : X → List X → ℕ → Type 0
  IsPlace x xs n = IsPartitionPoint (λ y. before y x ≡ true) (λ y. before y x ≡ false) xs n

  pub insert_is_put : (x : X) (xs : List X) (n : ℕ) → IsPlace x xs n → n ≤ length xs → insert xs n x ≡ put_in before x xs
  unfolding put_in
  insert_is_put x [] zero point low = refl
  insert_is_put x [] (suc n) point low = absurd (omega arith)
  insert_is_put x (y ∷ ys) zero point low =
      let last : before y x ≡ false = point.1 0 y (omega arith) (omega arith) in
      rw last refl
  insert_is_put x (y ∷ ys) (suc n) point low =
      let first : before y x ≡ true = point.0 0 y (omega arith) (omega arith) in
      rw first (ap (λ zs. y ∷ zs) (insert_is_put x ys n (λ k d p q. point.0 (suc k) d (omega arith) (omega arith), λ k d p q. point.1 (suc k) d (omega arith) (omega arith)) (omega arith)))
