-- A list that is sorted stably is in ascending order.
use Rattle.std.proofs.Common.{◌≡◌, ◌∙◌, ℕ, zero, suc, ◌+◌, ◌≤◌, ◌<◌, List, [], ◌∷◌, length, get_or, Bool, true, false, true≢false, cond, not, refl, sym, ap, subst, arith}
use Rattle.std.specs.Prelude.{◌&&◌, ⊤, if◌then◌else◌}
use Rattle.std.specs.Cmp.{IsStrictWeakOrder}
use Rattle.std.specs.List.{filter}
use Rattle.std.specs.List.Sorted.{IsSortedBy, IsStableBy, ties}
use Rattle.std.proofs.lemmas.Bool.{and_parts}
use Rattle.std.proofs.lemmas.List.Sorted.{sorted_far}
use Rattle.api_types.specs.Ascending.{ascending, put_in}

abbrev tail_or : {X : Type 0} → List X → List X
tail_or [] = []
tail_or (x ∷ xs) = xs

abbrev is_empty : {X : Type 0} → List X → Bool
is_empty [] = true
is_empty (x ∷ xs) = false

abbrev head_or : {X : Type 0} → X → List X → X
head_or d [] = d
head_or d (x ∷ xs) = x

module _ {X : Type 0} (before : X → X → Bool) (order : IsStrictWeakOrder before) where
  -- none of these comes before the element
  abbrev pub Least : X → List X → Type 0
  Least x [] = ⊤
  Least x (y ∷ ys) = (before y x ≡ false) × Least x ys

  abbrev pub Rises : List X → Type 0
  Rises [] = ⊤
  Rises (x ∷ xs) = Least x xs × Rises xs

  -- what a sort says of neighbours holds of all
  least_of : (x : X) (xs : List X) → ((k : ℕ) → k < length xs → before (get_or xs k x) x ≡ false) → Least x xs
  least_of x [] h = tt
  least_of x (y ∷ ys) h = (h 0 (omega arith), least_of x ys (λ k p. h (suc k) (omega arith)))

  rises_of : (xs : List X) → ((i j : ℕ) (d : X) → i ≤ j → j < length xs → before (get_or xs j d) (get_or xs i d) ≡ false) → Rises xs
  rises_of [] h = tt
  rises_of (x ∷ xs) h = (least_of x xs (λ k p. h 0 (suc k) x (omega arith) (omega arith)), rises_of xs (λ i j d p q. h (suc i) (suc j) d (omega arith) (omega arith)))

  pub rises : (xs : List X) → IsSortedBy before xs → Rises xs
  rises xs up = rises_of xs (sorted_far before order xs up)

  -- nothing comes before itself
  never : (x : X) → before x x ≡ false
  never x = go (before x x) refl
    where
      go : (b : Bool) → before x x ≡ b → b ≡ false
      go true e = sym e ∙ order.one_way x x e
      go false e = refl

  same_place : (x y : X) → before x y ≡ false → before y x ≡ false → ties before x y ≡ true
  same_place x y h k = ap (λ b. not b && not (before y x)) h ∙ ap (λ b. not b) k

  -- putting in keeps the list rising
  least_put : (x y : X) (ys : List X) → before x y ≡ false → Least y ys → Least y (put_in before x ys)
  unfolding put_in
  least_put x y [] e h = (e, tt)
  least_put x y (z ∷ zs) e h = go (before z x) (least_put x y zs e h.1)
    where
      go : (b : Bool) → Least y (put_in before x zs) → Least y (if b then z ∷ put_in before x zs else x ∷ z ∷ zs)
      go true rest = (h.0, rest)
      go false rest = (e, h)

  pub least_more : (x y : X) (ys : List X) → before y x ≡ false → Least y ys → Least x ys
  least_more x y [] e h = tt
  least_more x y (z ∷ zs) e h = (order.chain z y x h.0 e, least_more x y zs e h.1)

  rises_put : (x : X) (ys : List X) → Rises ys → Rises (put_in before x ys)
  unfolding put_in
  rises_put x [] h = (tt, tt)
  rises_put x (y ∷ ys) h = go (before y x) refl (rises_put x ys h.1)
    where
      go : (b : Bool) → before y x ≡ b → Rises (put_in before x ys) → Rises (if b then y ∷ put_in before x ys else x ∷ y ∷ ys)
      go true e rest = (least_put x y ys (order.one_way y x e) h.0, rest)
      go false e rest = ((e, least_more x y ys e h.0), h)

  pub ascending_rises : (xs : List X) → Rises (ascending before xs)
  unfolding ascending
  ascending_rises [] = tt
  ascending_rises (x ∷ xs) = rises_put x (ascending before xs) (ascending_rises xs)

  -- what has one place keeps its turn
  put_stable : (w x : X) (ys : List X) → filter (ties before w) (put_in before x ys) ≡ filter (ties before w) (x ∷ ys)
  unfolding put_in
  put_stable w x [] = refl
  put_stable w x (y ∷ ys) = go (before y x) refl (ties before w x) refl (ties before w y) refl (put_stable w x ys)
    where
      kept : List X
      kept = filter (ties before w) ys

      not_back : (b : Bool) → not b ≡ true → b ≡ false
      not_back true h = sym h
      not_back false h = refl

      apart : before y x ≡ true → ties before w x ≡ true → ties before w y ≡ true → true ≡ false
      apart e f g =
          let p = and_parts (not (before w x)) (not (before x w)) f in
          let q = and_parts (not (before w y)) (not (before y w)) g in
          sym e ∙ order.chain y w x (not_back (before y w) q.1) (not_back (before w x) p.0)

      go : (b : Bool) → before y x ≡ b → (c : Bool) → ties before w x ≡ c → (d : Bool) → ties before w y ≡ d
          → filter (ties before w) (put_in before x ys) ≡ cond (ties before w x) (x ∷ kept) kept
          → filter (ties before w) (if b then y ∷ put_in before x ys else x ∷ y ∷ ys) ≡ cond c (x ∷ cond d (y ∷ kept) kept) (cond d (y ∷ kept) kept)
      go false e c f d g rest = ap (λ t. cond t (x ∷ cond (ties before w y) (y ∷ kept) kept) (cond (ties before w y) (y ∷ kept) kept)) f ∙ ap (λ t. cond c (x ∷ cond t (y ∷ kept) kept) (cond t (y ∷ kept) kept)) g
      go true e true f true g rest = absurd (true≢false (apart e f g))
      go true e true f false g rest = ap (λ t. cond t (y ∷ filter (ties before w) (put_in before x ys)) (filter (ties before w) (put_in before x ys))) g ∙ rest ∙ ap (λ t. cond t (x ∷ kept) kept) f
      go true e false f d g rest = ap (λ t. cond t (y ∷ filter (ties before w) (put_in before x ys)) (filter (ties before w) (put_in before x ys))) g ∙ ap (λ l. cond d (y ∷ l) l) (rest ∙ ap (λ t. cond t (x ∷ kept) kept) f)

  ascending_stable : (w : X) (xs : List X) → filter (ties before w) (ascending before xs) ≡ filter (ties before w) xs
  unfolding ascending
  ascending_stable w [] = refl
  ascending_stable w (x ∷ xs) = put_stable w x (ascending before xs) ∙ ap (λ l. cond (ties before w x) (x ∷ l) l) (ascending_stable w xs)

  -- two lists that rise, with the same elements of each place in the same turn, are one
  least_kept : (t : X → Bool) (y z : X) (l rest : List X) → filter t l ≡ z ∷ rest → Least y l → before z y ≡ false
  least_kept t y z [] rest e h = absurd (true≢false (ap is_empty e))
  least_kept t y z (x ∷ xs) rest e h = go (t x) refl (least_kept t y z xs rest)
    where
      go : (b : Bool) → t x ≡ b → (filter t xs ≡ z ∷ rest → Least y xs → before z y ≡ false) → before z y ≡ false
      go true f more = subst (λ v. before v y ≡ false) (ap (head_or x) (sym (ap (λ c. cond c (x ∷ filter t xs) (filter t xs)) f) ∙ e)) h.0
      go false f more = more (sym (ap (λ c. cond c (x ∷ filter t xs) (filter t xs)) f) ∙ e) h.1

  ties_itself : (x : X) → ties before x x ≡ true
  ties_itself x = same_place x x (never x) (never x)

  -- it is in front of those of its place
  leads : (z : X) (zs : List X) → filter (ties before z) (z ∷ zs) ≡ z ∷ filter (ties before z) zs
  leads z zs = ap (λ b. cond b (z ∷ filter (ties before z) zs) (filter (ties before z) zs)) (ties_itself z)

  pub same_lists : (ys zs : List X) → Rises ys → Rises zs → ((w : X) → filter (ties before w) ys ≡ filter (ties before w) zs) → ys ≡ zs
  same_lists [] [] h k same = refl
  same_lists [] (z ∷ zs) h k same = absurd (true≢false (ap is_empty (same z ∙ leads z zs)))
  same_lists (y ∷ ys) [] h k same = absurd (true≢false (ap is_empty (sym (same y) ∙ leads y ys)))
  same_lists (y ∷ ys) (z ∷ zs) h k same = ap (λ x. x ∷ ys) first ∙ ap (λ l. z ∷ l) (same_lists ys zs h.1 k.1 left)
    where
      y_first : before z y ≡ false
      y_first = least_kept (ties before z) y z (y ∷ ys) (filter (ties before z) zs) (same z ∙ leads z zs) (never y, h.0)

      z_first : before y z ≡ false
      z_first = least_kept (ties before y) z y (z ∷ zs) (filter (ties before y) ys) (sym (same y) ∙ leads y ys) (never z, k.0)

      together : filter (ties before y) (z ∷ zs) ≡ z ∷ filter (ties before y) zs
      together = ap (λ b. cond b (z ∷ filter (ties before y) zs) (filter (ties before y) zs)) (same_place y z z_first y_first)

      first : y ≡ z
      first = ap (head_or y) (sym (leads y ys) ∙ same y ∙ together)

      without : (b : Bool) (l m : List X) → cond b (z ∷ l) l ≡ cond b (z ∷ m) m → l ≡ m
      without true l m e = ap tail_or e
      without false l m e = e

      left : (w : X) → filter (ties before w) ys ≡ filter (ties before w) zs
      left w = without (ties before w z) (filter (ties before w) ys) (filter (ties before w) zs)
          (ap (λ v. cond (ties before w v) (v ∷ filter (ties before w) ys) (filter (ties before w) ys)) (sym first) ∙ same w)

  pub sorted_is_ascending : (xs ys : List X) → IsSortedBy before ys → IsStableBy before xs ys → ys ≡ ascending before xs
  sorted_is_ascending xs ys up stable = same_lists ys (ascending before xs) (rises ys up) (ascending_rises xs) (λ w. stable w ∙ sym (ascending_stable w xs))

  -- and what is in ascending order is sorted
  sorted : (xs : List X) → Rises xs → IsSortedBy before xs
  sorted [] h k d low within = absurd (omega (arith, within))
  sorted (x ∷ []) h k d low within = absurd (omega (arith, within))
  sorted (x ∷ y ∷ ys) h zero d low within = h.0.0
  sorted (x ∷ y ∷ ys) h (suc k) d low within =
      let next : suc k + 1 ≡ suc (k + 1) = omega arith in
      rw next (sorted (y ∷ ys) h.1 k d (omega arith) (omega (arith, within)))

  pub ascending_sorted : (xs : List X) → IsSortedBy before (ascending before xs)
  ascending_sorted xs = sorted (ascending before xs) (ascending_rises xs)
