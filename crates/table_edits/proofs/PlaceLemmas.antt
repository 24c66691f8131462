-- A key's place among the rows of a keyed table is found by halving, and the row at the key is the
-- one there, if any.
use Rattle.std.proofs.Common.{Bor, inl, inr, ◌⊎◌, ◌≡◌, ◌∙◌, ℕ, zero, suc, ◌<◌, ◌≤◌, List, [], ◌∷◌, length, get_or, slice_get, Option, Some, None, Bool, true, false, true≢false, not, refl, sym, ap, subst, arith}
use Rattle.std.specs.Prelude.{MatchOption, if◌then◌else◌, option_copied}
use Rattle.std.specs.List.{HoldsAt}
use Rattle.std.specs.List.Sorted.{IsPartitionedBy, IsPartitionPoint}
use Rattle.std.proofs.lemmas.Option.{slice_get_past, slice_get_read}
use Rattle.plane_types.specs.Keyed.{AllAfter, IsTotal, Rises, below, row_at, with_keys}
use Rattle.plane_types.proofs.KeyedLemmas.{after_chain, apart_second, none_after, one_both, three_ways}
use Rattle.plane_types.proofs.KeyedTablesLemmas.{unkeyed, with_keys-rows}
use Rattle.table_edits.specs.Places.{HaveKeys, passes}

module _ {K R : Type 0} (before : K → K → Bool) (order : IsTotal before) (key : R → Option K) (q : K) where
  -- whether a row's key comes before this one
  abbrev pub is_under : R → Bool
  is_under r = passes (λ k. before k q) (key r)

  under_is : (x : K × R) → key x.1 ≡ Some x.0 → is_under x.1 ≡ before x.0 q
  under_is x e = ap (passes (λ k. before k q)) e

  below_later : (x : K × R) (xs : List (K × R)) → before x.0 q ≡ true → below before q (x ∷ xs) ≡ suc (below before q xs)
  below_later x xs e = ap (λ b. if b then suc (below before q xs) else zero) e

  below_here : (x : K × R) (xs : List (K × R)) → before x.0 q ≡ false → below before q (x ∷ xs) ≡ zero
  below_here x xs e = ap (λ b. if b then suc (below before q xs) else zero) e

  pub below_within : (xs : List (K × R)) → below before q xs ≤ length (unkeyed xs)
  below_within [] = omega arith
  below_within (x ∷ xs) = go (before x.0 q) refl (below_within xs)
    where
      go : (b : Bool) → before x.0 q ≡ b → below before q xs ≤ length (unkeyed xs) → below before q (x ∷ xs) ≤ suc (length (unkeyed xs))
      go true e rest = let is = below_later x xs e in omega (arith, is, rest)
      go false e rest = let is = below_here x xs e in omega (arith, is)

  -- the rows before that place have keys that come before, and the others don't
  first_under : (xs : List (K × R)) → HaveKeys key xs → (k : ℕ) (d : R) → k < below before q xs → is_under (get_or (unkeyed xs) k d) ≡ true
  first_under [] have k d less = absurd (omega (arith, less))
  first_under (x ∷ xs) have k d less = go (before x.0 q) refl (λ n h. first_under xs have.1 n d h) k less
    where
      go : (b : Bool) → before x.0 q ≡ b → ((n : ℕ) → n < below before q xs → is_under (get_or (unkeyed xs) n d) ≡ true)
          → (k : ℕ) → k < below before q (x ∷ xs) → is_under (get_or (x.1 ∷ unkeyed xs) k d) ≡ true
      go false e rest k less = let is = below_here x xs e in absurd (omega (arith, is, less))
      go true e rest zero less = under_is x have.0 ∙ e
      go true e rest (suc k) less = let is = below_later x xs e in rest k (omega (arith, is, less))

  none_under : (a : K) (xs : List (K × R)) → before a q ≡ false → AllAfter before a xs → HaveKeys key xs → (k : ℕ) (d : R) → k < length (unkeyed xs) → is_under (get_or (unkeyed xs) k d) ≡ false
  none_under a [] e after have k d within = absurd (omega (arith, within))
  none_under a (x ∷ xs) e after have zero d within = under_is x have.0 ∙ go (before x.0 q) refl
    where
      go : (b : Bool) → before x.0 q ≡ b → before x.0 q ≡ false
      go true f = absurd (true≢false (sym (order.chain a x.0 q after.0 f) ∙ e))
      go false f = f
  none_under a (x ∷ xs) e after have (suc k) d within = none_under a xs e after.1 have.1 k d (omega (arith, within))

  rest_over : (xs : List (K × R)) → Rises before xs → HaveKeys key xs → (k : ℕ) (d : R) → below before q xs ≤ k → k < length (unkeyed xs) → is_under (get_or (unkeyed xs) k d) ≡ false
  rest_over [] up have k d low within = absurd (omega (arith, within))
  rest_over (x ∷ xs) up have k d low within = go (before x.0 q) refl (λ n h h'. rest_over xs up.1 have.1 n d h h') k low within
    where
      go : (b : Bool) → before x.0 q ≡ b → ((n : ℕ) → below before q xs ≤ n → n < length (unkeyed xs) → is_under (get_or (unkeyed xs) n d) ≡ false)
          → (k : ℕ) → below before q (x ∷ xs) ≤ k → k < suc (length (unkeyed xs)) → is_under (get_or (x.1 ∷ unkeyed xs) k d) ≡ false
      go true e rest zero low within = let is = below_later x xs e in absurd (omega (arith, is, low))
      go true e rest (suc k) low within = let is = below_later x xs e in rest k (omega (arith, is, low)) (omega (arith, within))
      go false e rest zero low within = under_is x have.0 ∙ e
      go false e rest (suc k) low within = none_under x.0 xs e up.0 have.1 k d (omega (arith, within))

  either : (m n : ℕ) → (m < n) ⊎ (n ≤ m)
  either m n = grind arith

  -- so halving finds it
  pub partitioned : (xs : List (K × R)) → Rises before xs → HaveKeys key xs → IsPartitionedBy is_under (unkeyed xs)
  partitioned xs up have i j d low within there = go (either j (below before q xs))
    where
      go : (j < below before q xs) ⊎ (below before q xs ≤ j) → is_under (get_or (unkeyed xs) i d) ≡ true
      go (inl less) = first_under xs have i d (omega (arith, low, less))
      go (inr more) = absurd (true≢false (sym there ∙ rest_over xs up have j d more within))

  pub place_is : (xs : List (K × R)) → Rises before xs → HaveKeys key xs → (n : ℕ) → IsPartitionPoint (λ r. is_under r ≡ true) (λ r. is_under r ≡ false) (unkeyed xs) n → n ≤ length (unkeyed xs) → n ≡ below before q xs
  place_is [] up have n point most = omega (arith, most)
  place_is (x ∷ xs) up have n point most = go (either n (below before q (x ∷ xs))) (either (below before q (x ∷ xs)) n)
    where
      here : ℕ
      here = below before q (x ∷ xs)

      within : here ≤ suc (length (unkeyed xs))
      within = below_within (x ∷ xs)

      go : (n < here) ⊎ (here ≤ n) → (here < n) ⊎ (n ≤ here) → n ≡ here
      go (inl less) o = absurd (true≢false (sym (first_under (x ∷ xs) have n x.1 less) ∙ point.1 n x.1 (omega arith) (omega (arith, less, within))))
      go (inr more) (inl past) = absurd (true≢false (sym (point.0 here x.1 (omega arith) past) ∙ rest_over (x ∷ xs) up have here x.1 (omega arith) (omega (arith, past, most))))
      go (inr more) (inr less) = omega (arith, more, less)

  -- the row at that place, where a test says that its key is this one
  abbrev pub if_there : (K → Bool) → Option R → Option R
  if_there test None = None
  if_there test (Some r) = if passes test (key r) then Some r else None

  if_key : (test : K → Bool) (x : K × R) → key x.1 ≡ Some x.0 → if_there test (Some x.1) ≡ (if test x.0 then Some x.1 else None)
  if_key test x e = ap (λ o. if passes test o then Some x.1 else None) e

  pub found_at : (test : K → Bool) → ((k : K) → before q k ≡ true → test k ≡ false) → ((k : K) → before q k ≡ false → before k q ≡ false → test k ≡ true)
      → (xs : List (K × R)) → Rises before xs → HaveKeys key xs → row_at before q xs ≡ if_there test (slice_get (unkeyed xs) (below before q xs))
  found_at test fails holds [] up have = refl
  found_at test fails holds (x ∷ xs) up have =
      three_ways before order q x.0 (row_at before q (x ∷ xs) ≡ if_there test (slice_get (unkeyed (x ∷ xs)) (below before q (x ∷ xs))))
      (λ e.
      none_after before order q (x ∷ xs) (e, after_chain before order q x.0 xs e up.0)
      ∙ sym (ap (λ n. if_there test (slice_get (unkeyed (x ∷ xs)) n)) (below_here x xs (order.one_way q x.0 e))
      ∙ (if_key test x have.0 ∙ ap (λ b. if b then Some x.1 else None) (fails x.0 e))))
      (λ e.
      ap (λ b. if b then Some x.1 else row_at before q xs) (apart_second before order q x.0 e)
      ∙ (found_at test fails holds xs up.1 have.1
      ∙ sym (ap (λ n. if_there test (slice_get (unkeyed (x ∷ xs)) n)) (below_later x xs e))))
      (λ e f.
      ap (λ b. if b then Some x.1 else row_at before q xs) (one_both before order q x.0 e f)
      ∙ sym (ap (λ n. if_there test (slice_get (unkeyed (x ∷ xs)) n)) (below_here x xs f)
      ∙ (if_key test x have.0 ∙ ap (λ b. if b then Some x.1 else None) (holds x.0 e f))))

  -- the same of the rows without their keys
  pub halved : (xs : List (K × R)) → Rises before xs → HaveKeys key xs → (rows : List R) → unkeyed xs ≡ rows → (n : ℕ)
      → (IsPartitionedBy is_under rows → IsPartitionPoint (λ r. is_under r ≡ true) (λ r. is_under r ≡ false) rows n) → n ≤ length rows → n ≡ below before q xs
  halved xs up have rows plain n finds most =
      place_is xs up have n
      (subst (λ rs. IsPartitionPoint (λ r. is_under r ≡ true) (λ r. is_under r ≡ false) rs n) (sym plain) (finds (subst (IsPartitionedBy is_under) plain (partitioned xs up have))))
      (subst (λ rs. n ≤ length rs) (sym plain) most)

  pub looked : (test : K → Bool) → ((k : K) → before q k ≡ true → test k ≡ false) → ((k : K) → before q k ≡ false → before k q ≡ false → test k ≡ true)
      → (xs : List (K × R)) → Rises before xs → HaveKeys key xs → (rows : List R) → unkeyed xs ≡ rows → (n : ℕ) → n ≡ below before q xs → row_at before q xs ≡ if_there test (slice_get rows n)
  looked test fails holds xs up have rows plain n place =
      found_at test fails holds xs up have ∙ (λ j. if_there test (slice_get (plain j) (sym place j)))

-- rows under keys of their own
pub have_own : {K R : Type 0} (key_of : R → K) (rows : List R) → HaveKeys (λ r. Some (key_of r)) (with_keys key_of rows)
have_own key_of [] = tt
have_own key_of (r ∷ rows) = (refl, have_own key_of rows)

module _ {K R : Type 0} (before : K → K → Bool) (order : IsTotal before) (key_of : R → K) (q : K) where
  abbrev pub row_here : Option R → Option R
  row_here None = None
  row_here (Some r) = if not (before q (key_of r)) then Some r else None

  -- the row at a key, of which this is the place
  pub own_row : (rows : List R) → Rises before (with_keys key_of rows) → (n : ℕ) → n ≡ below before q (with_keys key_of rows) → row_at before q (with_keys key_of rows) ≡ row_here (slice_get rows n)
  own_row rows up n place =
      looked before order (λ r. Some (key_of r)) q (λ k. not (before q k)) (λ k e. ap not e) (λ k e f. ap not e) (with_keys key_of rows) up (have_own key_of rows) rows (with_keys-rows key_of rows) n place ∙ here (slice_get rows n)
    where
      here : (o : Option R) → if_there before order (λ r. Some (key_of r)) q (λ k. not (before q k)) o ≡ row_here o
      here None = refl
      here (Some r) = refl

-- what is got at a place
pub got_at : {X : Type 0} (xs : List X) (i : ℕ) (o : Option (Bor X)) → MatchOption o (length xs ≤ i) (λ x. (i < length xs) × HoldsAt (λ y. x.now ≡ y) xs i) → option_copied o ≡ slice_get xs i
got_at xs i None past = sym (slice_get_past xs i past)
got_at xs i (Some x) at = sym (slice_get_read xs (length xs) i x.now refl at.0 (at.1 x.now))
