-- What adding a row, replacing one and removing one do to `Each`, `list_any` and sums over a list.
use Rattle.std.proofs.Common.{◌≡◌, ℕ, zero, suc, ◌+◌, ◌≤◌, List, [], ◌∷◌, ◌++◌, Bool, true, false, cond, Some, None, length, slice_get, slice_set, remove, refl, ap, sym, ◌∙◌, arith, not, sum_by, subst}
use Rattle.std.specs.Prelude.{◌&&◌, ◌||◌, count_by, filter}
use Rattle.std.specs.List.{list_any}
use Rattle.std.proofs.lemmas.List.Sums.{sum_by_push, sum_by-cons}
use Rattle.api_types.specs.Lists.{Each}

pub some_equal : {X : Type 0} (x y : X) → Some x ≡ Some y → x ≡ y
some_equal x y h = cc

pub none_some : {X : Type 0} (y : X) (P : Type 0) → None ≡ Some y → P
none_some y P h = cc

pub or_false : (b : Bool) → b || false ≡ b
or_false true = refl
or_false false = refl

pub false_true : (P : Type 0) → false ≡ true → P
false_true P h = cc

pub or_true : (b : Bool) → b || true ≡ true
or_true true = refl
or_true false = refl

pub or_none : (a b : Bool) → a || b ≡ false → (a ≡ false) × (b ≡ false)
or_none true b h = cc
or_none false b h = (refl, h)

pub and_both : (a b : Bool) → a && b ≡ true → (a ≡ true) × (b ≡ true)
and_both true b h = (refl, h)
and_both false b h = cc

pub both_and : (a b : Bool) → a ≡ true → b ≡ true → a && b ≡ true
both_and a b p q = λ j. p j && q j

module _ {R : Type 0} where
  -- a row of a longer list is one of the old list, or the last
  pub at_push : (xs : List R) (x y : R) (k : ℕ) → slice_get (xs ++ x ∷ []) k ≡ Some y → (P : Type 0) → (slice_get xs k ≡ Some y → P) → (k ≡ length xs → x ≡ y → P) → P
  at_push [] x y zero at P before last = last refl (some_equal x y at)
  at_push [] x y (suc k) at P before last = none_some y P at
  at_push (a ∷ xs) x y zero at P before last = before at
  at_push (a ∷ xs) x y (suc k) at P before last = at_push xs x y k at P before (λ e s. last (ap suc e) s)

  -- a row of a list with one replaced is one of the old list, or the new one
  pub at_set : (xs : List R) (i : ℕ) (x y : R) (k : ℕ) → slice_get (slice_set xs i x) k ≡ Some y → (P : Type 0) → (slice_get xs k ≡ Some y → P) → (k ≡ i → x ≡ y → P) → P
  at_set [] i x y k at P before here = before at
  at_set (a ∷ xs) zero x y zero at P before here = here refl (some_equal x y at)
  at_set (a ∷ xs) zero x y (suc k) at P before here = before at
  at_set (a ∷ xs) (suc i) x y zero at P before here = before at
  at_set (a ∷ xs) (suc i) x y (suc k) at P before here = at_set xs i x y k at P before (λ e s. here (ap suc e) s)

  -- a row of a list with one removed is one of the old list
  pub at_remove : (xs : List R) (i : ℕ) (y : R) (k : ℕ) → slice_get (remove xs i) k ≡ Some y → (j : ℕ) × (slice_get xs j ≡ Some y)
  at_remove [] zero y k at = (k, at)
  at_remove [] (suc i) y k at = (k, at)
  at_remove (a ∷ xs) zero y k at = (suc k, at)
  at_remove (a ∷ xs) (suc i) y zero at = (0, at)
  at_remove (a ∷ xs) (suc i) y (suc k) at = let r = at_remove xs i y k at in (suc r.0, r.1)

  -- a fact on each row
  pub each-push : (P : R → Type 0) (xs : List R) (x : R) → Each P xs → P x → Each P (xs ++ x ∷ [])
  each-push P xs x all new k y at = at_push xs x y k at (P y) (all k y) (λ e same. subst P same new)

  pub each-set : (P : R → Type 0) (xs : List R) (i : ℕ) (x : R) → Each P xs → P x → Each P (slice_set xs i x)
  each-set P xs i x all new k y at = at_set xs i x y k at (P y) (all k y) (λ e same. subst P same new)

  pub each-remove : (P : R → Type 0) (xs : List R) (i : ℕ) → Each P xs → Each P (remove xs i)
  each-remove P xs i all k y at = let r = at_remove xs i y k at in all r.0 y r.1

  pub each-weaker : (P Q : R → Type 0) (xs : List R) → ((x : R) → P x → Q x) → Each P xs → Each Q xs
  each-weaker P Q xs w all k y at = w y (all k y at)

  -- a test of some row
  pub any-push : (test : R → Bool) (xs : List R) (x : R) → list_any test (xs ++ x ∷ []) ≡ list_any test xs || test x
  any-push test [] x = or_false (test x)
  any-push test (a ∷ xs) x = by (test a) (any-push test xs x)
    where
      by : (b : Bool) → list_any test (xs ++ x ∷ []) ≡ list_any test xs || test x → b || list_any test (xs ++ x ∷ []) ≡ (b || list_any test xs) || test x
      by true h = refl
      by false h = h

  pub any-grows : (test : R → Bool) (xs : List R) (x : R) → list_any test xs ≡ true → list_any test (xs ++ x ∷ []) ≡ true
  any-grows test xs x h = any-push test xs x ∙ ap (λ b. b || test x) h

  pub any-last : (test : R → Bool) (xs : List R) (x : R) → test x ≡ true → list_any test (xs ++ x ∷ []) ≡ true
  any-last test xs x h = any-push test xs x ∙ (ap (λ b. list_any test xs || b) h ∙ by (list_any test xs))
    where
      by : (b : Bool) → b || true ≡ true
      by true = refl
      by false = refl

  pub any-stays_none : (test : R → Bool) (xs : List R) (x : R) → list_any test xs ≡ false → test x ≡ false → list_any test (xs ++ x ∷ []) ≡ false
  any-stays_none test xs x h n = any-push test xs x ∙ (λ j. h j || n j)

  pub any-set_same : (test : R → Bool) (xs : List R) (i : ℕ) (old new : R) → slice_get xs i ≡ Some old → test new ≡ test old → list_any test (slice_set xs i new) ≡ list_any test xs
  any-set_same test [] i old new at same = refl
  any-set_same test (a ∷ xs) zero old new at same = let e : a ≡ old = some_equal a old at in ap (λ b. b || list_any test xs) (same ∙ ap test (sym e))
  any-set_same test (a ∷ xs) (suc i) old new at same = ap (λ b. test a || b) (any-set_same test xs i old new at same)

  pub any-remove_other : (test : R → Bool) (xs : List R) (i : ℕ) (old : R) → slice_get xs i ≡ Some old → test old ≡ false → list_any test (remove xs i) ≡ list_any test xs
  any-remove_other test [] i old at fails = none_some old _ at
  any-remove_other test (a ∷ xs) zero old at fails = let e : a ≡ old = some_equal a old at in ap (λ b. b || list_any test xs) (sym (ap test e ∙ fails))
  any-remove_other test (a ∷ xs) (suc i) old at fails = ap (λ b. test a || b) (any-remove_other test xs i old at fails)

  pub any-remove_none : (test : R → Bool) (xs : List R) (i : ℕ) → list_any test xs ≡ false → list_any test (remove xs i) ≡ false
  any-remove_none test [] zero fails = fails
  any-remove_none test [] (suc i) fails = fails
  any-remove_none test (a ∷ xs) zero fails = (or_none (test a) (list_any test xs) fails).1
  any-remove_none test (a ∷ xs) (suc i) fails =
      let both = or_none (test a) (list_any test xs) fails in
      (λ j. both.0 j || any-remove_none test xs i both.1 j)

  -- none of the rows passes
  pub any-none : (test : R → Bool) (xs : List R) → Each (λ x. test x ≡ false) xs → list_any test xs ≡ false
  any-none test [] all = refl
  any-none test (a ∷ xs) all = (λ j. all 0 a refl j || list_any test xs) ∙ any-none test xs (λ k y at. all (suc k) y at)

  pub none-any : (test : R → Bool) (xs : List R) → list_any test xs ≡ false → Each (λ x. test x ≡ false) xs
  none-any test [] fails k y at = none_some y _ at
  none-any test (a ∷ xs) fails zero y at = ap test (sym (some_equal a y at)) ∙ (or_none (test a) (list_any test xs) fails).0
  none-any test (a ∷ xs) fails (suc k) y at = none-any test xs (or_none (test a) (list_any test xs) fails).1 k y at

  -- a sum over the rows
  pub sum-set : (f : R → ℕ) (xs : List R) (i : ℕ) (old new : R) → slice_get xs i ≡ Some old → sum_by f (slice_set xs i new) + f old ≡ sum_by f xs + f new
  sum-set f [] i old new at = none_some old _ at
  sum-set f (a ∷ xs) zero old new at =
      let e : f a ≡ f old = ap f (some_equal a old at) in
      omega (arith, sum_by-cons f a xs, sum_by-cons f new xs)
  sum-set f (a ∷ xs) (suc i) old new at =
      omega (arith, sum-set f xs i old new at, sum_by-cons f a xs, sum_by-cons f a (slice_set xs i new))

  pub sum-set_same : (f : R → ℕ) (xs : List R) (i : ℕ) (old new : R) → slice_get xs i ≡ Some old → f new ≡ f old → sum_by f (slice_set xs i new) ≡ sum_by f xs
  sum-set_same f xs i old new at same = omega (arith, sum-set f xs i old new at)

  pub sum-remove : (f : R → ℕ) (xs : List R) (i : ℕ) (old : R) → slice_get xs i ≡ Some old → sum_by f (remove xs i) + f old ≡ sum_by f xs
  sum-remove f [] i old at = none_some old _ at
  sum-remove f (a ∷ xs) zero old at =
      let e : f a ≡ f old = ap f (some_equal a old at) in
      omega (arith, sum_by-cons f a xs)
  sum-remove f (a ∷ xs) (suc i) old at =
      omega (arith, sum-remove f xs i old at, sum_by-cons f a xs, sum_by-cons f a (remove xs i))

  pub sum-none : (f : R → ℕ) (xs : List R) → Each (λ x. f x ≡ 0) xs → sum_by f xs ≡ 0
  sum-none f [] all = refl
  sum-none f (a ∷ xs) all = omega (arith, sum_by-cons f a xs, all 0 a refl, sum-none f xs (λ k y at. all (suc k) y at))

  -- a test that no row passes counts none
  pub count-none : (test : R → Bool) (xs : List R) → Each (λ x. test x ≡ false) xs → count_by test xs ≡ 0
  count-none test xs all = sum-none (λ x. cond (test x) 1 0) xs (λ k y at. ap (λ b. cond b 1 0) (all k y at))

  -- a value held at most once, and by no row so far, is held at most once after a row is added
  pub once-push : (test : R → Bool) (xs : List R) (x : R) → count_by test xs ≤ 1 → (test x ≡ true → count_by test xs ≡ 0) → count_by test (xs ++ x ∷ []) ≤ 1
  once-push test xs x once new = by (test x) refl
    where
      by : (b : Bool) → test x ≡ b → count_by test (xs ++ x ∷ []) ≤ 1
      by true e = let one : cond {A = ℕ} (test x) 1 0 ≡ 1 = ap (λ (b : Bool). cond {A = ℕ} b 1 0) e in let zeros : count_by test xs ≡ 0 = new e in omega (arith, sum_by_push (λ y. cond {A = ℕ} (test y) 1 0) xs x, one, zeros)
      by false e = let zeros : cond {A = ℕ} (test x) 1 0 ≡ 0 = ap (λ (b : Bool). cond {A = ℕ} b 1 0) e in omega (arith, sum_by_push (λ y. cond {A = ℕ} (test y) 1 0) xs x, zeros, once)

  pub once-remove : (f : R → ℕ) (xs : List R) (i : ℕ) (old : R) (n : ℕ) → slice_get xs i ≡ Some old → sum_by f xs ≤ n → sum_by f (remove xs i) ≤ n
  once-remove f xs i old n at once = omega (arith, sum-remove f xs i old at)

  -- some row passes, at a place
  pub any-at : (test : R → Bool) (xs : List R) → list_any test xs ≡ true → (k : ℕ) × (x : R) × (slice_get xs k ≡ Some x) × (test x ≡ true)
  any-at test [] h = false_true _ h
  any-at test (a ∷ xs) h = by (test a) refl h (λ g. any-at test xs g)
    where
      by : (b : Bool) → test a ≡ b → b || list_any test xs ≡ true → (list_any test xs ≡ true → (k : ℕ) × (x : R) × (slice_get xs k ≡ Some x) × (test x ≡ true)) → (k : ℕ) × (x : R) × (slice_get (a ∷ xs) k ≡ Some x) × (test x ≡ true)
      by true e h rest = (0, a, refl, e)
      by false e h rest = let r = rest h in (suc r.0, r.1, r.2, r.3)

  pub at-any : (test : R → Bool) (xs : List R) (k : ℕ) (x : R) → slice_get xs k ≡ Some x → test x ≡ true → list_any test xs ≡ true
  at-any test [] k x at h = none_some x _ at
  at-any test (a ∷ xs) zero x at h = ap (λ b. b || list_any test xs) (ap test (some_equal a x at) ∙ h)
  at-any test (a ∷ xs) (suc k) x at h = ap (λ b. test a || b) (at-any test xs k x at h) ∙ or_true (test a)

  pub any-set_grows : (test : R → Bool) (xs : List R) (i : ℕ) (old new : R) → slice_get xs i ≡ Some old → (test old ≡ true → test new ≡ true) → list_any test xs ≡ true → list_any test (slice_set xs i new) ≡ true
  any-set_grows test [] i old new at grows h = none_some old _ at
  any-set_grows test (a ∷ xs) zero old new at grows h = by (test a) refl h
    where
      by : (b : Bool) → test a ≡ b → b || list_any test xs ≡ true → test new || list_any test xs ≡ true
      by true e h = ap (λ b. b || list_any test xs) (grows (ap test (sym (some_equal a old at)) ∙ e))
      by false e h = ap (λ b. test new || b) h ∙ or_true (test new)
  any-set_grows test (a ∷ xs) (suc i) old new at grows h = by (test a) h (λ g. any-set_grows test xs i old new at grows g)
    where
      by : (b : Bool) → b || list_any test xs ≡ true → (list_any test xs ≡ true → list_any test (slice_set xs i new) ≡ true) → b || list_any test (slice_set xs i new) ≡ true
      by true h rest = refl
      by false h rest = rest h

  -- the row that is put in passes
  pub set-any : (test : R → Bool) (xs : List R) (i : ℕ) (old new : R) → slice_get xs i ≡ Some old → test new ≡ true → list_any test (slice_set xs i new) ≡ true
  set-any test [] i old new at h = none_some old _ at
  set-any test (a ∷ xs) zero old new at h = ap (λ b. b || list_any test xs) h
  set-any test (a ∷ xs) (suc i) old new at h = ap (λ b. test a || b) (set-any test xs i old new at h) ∙ or_true (test a)

  pub any-weaker : (p q : R → Bool) (xs : List R) → ((x : R) → p x ≡ true → q x ≡ true) → list_any p xs ≡ true → list_any q xs ≡ true
  any-weaker p q xs w h = let r = any-at p xs h in at-any q xs r.0 r.1 r.2 (w r.1 r.3)

  -- what is counted nowhere is nowhere
  pub none-counted : (test : R → Bool) (xs : List R) → count_by test xs ≡ 0 → list_any test xs ≡ false
  none-counted test [] h = refl
  none-counted test (a ∷ xs) h = by (test a) refl (λ z. none-counted test xs z)
    where
      by : (b : Bool) → test a ≡ b → (count_by test xs ≡ 0 → list_any test xs ≡ false) → b || list_any test xs ≡ false
      by true e rest = let one : cond {A = ℕ} (test a) 1 0 ≡ 1 = ap (λ (b : Bool). cond {A = ℕ} b 1 0) e in absurd (omega (arith, sum_by-cons (λ y. cond {A = ℕ} (test y) 1 0) a xs, one, h))
      by false e rest = rest (omega (arith, sum_by-cons (λ y. cond {A = ℕ} (test y) 1 0) a xs, h))

  -- rows that are kept by a test
  pub at_filter : (keep : R → Bool) (xs : List R) (k : ℕ) (x : R) → slice_get (filter keep xs) k ≡ Some x → (j : ℕ) × (slice_get xs j ≡ Some x) × (keep x ≡ true)
  at_filter keep [] k x at = none_some x _ at
  at_filter keep (a ∷ xs) k x at = by (keep a) refl k at (λ i h. at_filter keep xs i x h)
    where
      by : (b : Bool) → keep a ≡ b → (k : ℕ) → slice_get (cond b (a ∷ filter keep xs) (filter keep xs)) k ≡ Some x
          → ((i : ℕ) → slice_get (filter keep xs) i ≡ Some x → (j : ℕ) × (slice_get xs j ≡ Some x) × (keep x ≡ true)) → (j : ℕ) × (slice_get (a ∷ xs) j ≡ Some x) × (keep x ≡ true)
      by true e zero at rest = (0, at, ap keep (sym (some_equal a x at)) ∙ e)
      by true e (suc i) at rest = let r = rest i at in (suc r.0, r.1, r.2)
      by false e i at rest = let r = rest i at in (suc r.0, r.1, r.2)

  pub each-filter : (keep : R → Bool) (P Q : R → Type 0) (xs : List R) → ((x : R) → keep x ≡ true → P x → Q x) → Each P xs → Each Q (filter keep xs)
  each-filter keep P Q xs w all k y at = let r = at_filter keep xs k y at in w y r.2 (all r.0 y r.1)

  -- a test that only kept rows pass sees no difference
  pub any-filter : (keep test : R → Bool) (xs : List R) → Each (λ x. keep x ≡ false → test x ≡ false) xs → list_any test (filter keep xs) ≡ list_any test xs
  any-filter keep test [] w = refl
  any-filter keep test (a ∷ xs) w = by (keep a) refl (any-filter keep test xs (λ k x at. w (suc k) x at))
    where
      by : (b : Bool) → keep a ≡ b → list_any test (filter keep xs) ≡ list_any test xs → list_any test (cond b (a ∷ filter keep xs) (filter keep xs)) ≡ test a || list_any test xs
      by true e rest = ap (λ b. test a || b) rest
      by false e rest = rest ∙ ap (λ b. b || list_any test xs) (sym (w 0 a refl e))

  pub any-filter_none : (keep test : R → Bool) (xs : List R) → list_any test xs ≡ false → list_any test (filter keep xs) ≡ false
  any-filter_none keep test xs none = any-none test (filter keep xs) (each-filter keep (λ x. test x ≡ false) (λ x. test x ≡ false) xs (λ x k h. h) (none-any test xs none))

  pub sum-filter : (keep : R → Bool) (f : R → ℕ) (xs : List R) → Each (λ x. keep x ≡ false → f x ≡ 0) xs → sum_by f (filter keep xs) ≡ sum_by f xs
  sum-filter keep f [] w = refl
  sum-filter keep f (a ∷ xs) w = by (keep a) refl (sum-filter keep f xs (λ k x at. w (suc k) x at))
    where
      by : (b : Bool) → keep a ≡ b → sum_by f (filter keep xs) ≡ sum_by f xs → sum_by f (cond b (a ∷ filter keep xs) (filter keep xs)) ≡ sum_by f (a ∷ xs)
      by true e rest = omega (arith, sum_by-cons f a (filter keep xs), sum_by-cons f a xs, rest)
      by false e rest = let zeros : f a ≡ 0 = w 0 a refl e in omega (arith, sum_by-cons f a xs, rest)

  pub sum-filter-le : (keep : R → Bool) (f : R → ℕ) (xs : List R) → sum_by f (filter keep xs) ≤ sum_by f xs
  sum-filter-le keep f [] = omega arith
  sum-filter-le keep f (a ∷ xs) = by (keep a) (sum-filter-le keep f xs)
    where
      by : (b : Bool) → sum_by f (filter keep xs) ≤ sum_by f xs → sum_by f (cond b (a ∷ filter keep xs) (filter keep xs)) ≤ sum_by f (a ∷ xs)
      by true rest = omega (arith, sum_by-cons f a (filter keep xs), sum_by-cons f a xs, rest)
      by false rest = omega (arith, sum_by-cons f a xs, rest)

  pub filter-any : (keep test : R → Bool) (xs : List R) (k : ℕ) (x : R) → slice_get xs k ≡ Some x → keep x ≡ true → test x ≡ true → list_any test (filter keep xs) ≡ true
  filter-any keep test [] k x at kept h = none_some x _ at
  filter-any keep test (a ∷ xs) zero x at kept h =
      let same = some_equal a x at in
      ap (λ b. list_any test (cond b (a ∷ filter keep xs) (filter keep xs))) (ap keep same ∙ kept) ∙ ap (λ b. b || list_any test (filter keep xs)) (ap test same ∙ h)
  filter-any keep test (a ∷ xs) (suc k) x at kept h = by (keep a) (filter-any keep test xs k x at kept h)
    where
      by : (b : Bool) → list_any test (filter keep xs) ≡ true → list_any test (cond b (a ∷ filter keep xs) (filter keep xs)) ≡ true
      by true rest = ap (λ b. test a || b) rest ∙ or_true (test a)
      by false rest = rest

  -- a row that is found is kept, and passes the other test too
  pub any-filter_kept : (keep p q : R → Bool) (xs : List R) → Each (λ x. p x ≡ true → (keep x ≡ true) × (q x ≡ true)) xs → list_any p xs ≡ true → list_any q (filter keep xs) ≡ true
  any-filter_kept keep p q xs w h = let r = any-at p xs h in let both = w r.0 r.1 r.2 r.3 in filter-any keep q xs r.0 r.1 r.2 both.0 both.1

  pub any-filter_back : (keep test : R → Bool) (xs : List R) → list_any test (filter keep xs) ≡ true → list_any test xs ≡ true
  any-filter_back keep test xs h = let r = any-at test (filter keep xs) h in let f = at_filter keep xs r.0 r.1 r.2 in at-any test xs f.0 r.1 f.1 r.3

  pub length-filter-le : (keep : R → Bool) (xs : List R) → length (filter keep xs) ≤ length xs
  length-filter-le keep [] = omega arith
  length-filter-le keep (a ∷ xs) = by (keep a) (length-filter-le keep xs)
    where
      by : (b : Bool) → length (filter keep xs) ≤ length xs → length (cond b (a ∷ filter keep xs) (filter keep xs)) ≤ length (a ∷ xs)
      by true rest = omega (arith, rest)
      by false rest = omega (arith, rest)

  pub uncounted : (test : R → Bool) (a : R) (xs : List R) → count_by test (a ∷ xs) ≤ 1 → test a ≡ true → count_by test xs ≡ 0
  uncounted test a xs once e = let one : cond {A = ℕ} (test a) 1 0 ≡ 1 = ap (λ (b : Bool). cond {A = ℕ} b 1 0) e in omega (arith, sum_by-cons (λ y. cond {A = ℕ} (test y) 1 0) a xs, one, once)

  -- of the rows at most one passes
  pub one_row : (test : R → Bool) (xs : List R) → count_by test xs ≤ 1 → (j k : ℕ) (x y : R) → slice_get xs j ≡ Some x → slice_get xs k ≡ Some y → test x ≡ true → test y ≡ true → x ≡ y
  one_row test [] once j k x y at_x at_y tx ty = none_some x _ at_x
  one_row test (a ∷ xs) once zero zero x y at_x at_y tx ty = sym (some_equal a x at_x) ∙ some_equal a y at_y
  one_row test (a ∷ xs) once zero (suc k) x y at_x at_y tx ty =
      let zeros = uncounted test a xs once (ap test (some_equal a x at_x) ∙ tx) in
      false_true _ (sym (none-any test xs (none-counted test xs zeros) k y at_y) ∙ ty)
  one_row test (a ∷ xs) once (suc j) zero x y at_x at_y tx ty =
      let zeros = uncounted test a xs once (ap test (some_equal a y at_y) ∙ ty) in
      false_true _ (sym (none-any test xs (none-counted test xs zeros) j x at_x) ∙ tx)
  one_row test (a ∷ xs) once (suc j) (suc k) x y at_x at_y tx ty =
      one_row test xs (omega (arith, sum_by-cons (λ y. cond {A = ℕ} (test y) 1 0) a xs, once)) j k x y at_x at_y tx ty

  -- what is said twice of the one row is said at once
  pub both_of : (test p q : R → Bool) (xs : List R) → count_by test xs ≤ 1 → list_any (λ x. test x && p x) xs ≡ true → list_any (λ x. test x && q x) xs ≡ true → list_any (λ x. test x && (p x && q x)) xs ≡ true
  both_of test p q xs once hp hq =
      let a = any-at (λ x. test x && p x) xs hp in
      let b = any-at (λ x. test x && q x) xs hq in
      let x : R = a.1 in
      let y : R = b.1 in
      let at_a = and_both (test x) (p x) a.3 in
      let at_b = and_both (test y) (q y) b.3 in
      let same : x ≡ y = one_row test xs once a.0 b.0 x y a.2 b.2 at_a.0 at_b.0 in
      let qx : q x ≡ true = ap q same ∙ at_b.1 in
      at-any (λ x. test x && (p x && q x)) xs a.0 x a.2 (both_and (test x) (p x && q x) at_a.0 (both_and (p x) (q x) at_a.1 qx))

  filter-all : (keep : R → Bool) (xs : List R) → Each (λ x. keep x ≡ true) xs → filter keep xs ≡ xs
  filter-all keep [] all = refl
  filter-all keep (a ∷ xs) all =
      ap (λ b. cond b (a ∷ filter keep xs) (filter keep xs)) (all 0 a refl) ∙ ap (λ ys. a ∷ ys) (filter-all keep xs (λ k y at. all (suc k) y at))

  -- taking out the one row that passes is keeping those that don't
  pub remove-filter : (test : R → Bool) (xs : List R) (k : ℕ) (x : R) → slice_get xs k ≡ Some x → test x ≡ true → count_by test xs ≤ 1 → remove xs k ≡ filter (λ y. not (test y)) xs
  remove-filter test [] k x at h once = none_some x _ at
  remove-filter test (a ∷ xs) zero x at h once =
      let passes : test a ≡ true = ap test (some_equal a x at) ∙ h in
      sym (ap (λ b. cond (not b) (a ∷ filter (λ y. not (test y)) xs) (filter (λ y. not (test y)) xs)) passes
      ∙ filter-all (λ y. not (test y)) xs (λ k y at. ap not (none-any test xs (none-counted test xs (uncounted test a xs once passes)) k y at)))
  remove-filter test (a ∷ xs) (suc k) x at h once =
      by (test a) refl (remove-filter test xs k x at h (omega (arith, sum_by-cons (λ y. cond {A = ℕ} (test y) 1 0) a xs, once)))
    where
      by : (b : Bool) → test a ≡ b → remove xs k ≡ filter (λ y. not (test y)) xs → a ∷ remove xs k ≡ cond (not b) (a ∷ filter (λ y. not (test y)) xs) (filter (λ y. not (test y)) xs)
      by true e rest = false_true _ (sym (none-any test xs (none-counted test xs (uncounted test a xs once e)) k x at) ∙ h)
      by false e rest = ap (λ ys. a ∷ ys) rest
