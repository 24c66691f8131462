-- What is counted at most once is found at most once; a fact on each place of a list is a fact on each element.
use Rattle.std.proofs.Common.{◌≡◌, ℕ, zero, suc, subst, ◌≤◌, List, [], ◌∷◌, Bool, true, false, cond, Option, Some, None, refl, ap, arith, sum_by}
use Rattle.std.specs.Prelude.{find, count_by, ◌||◌}
use Rattle.std.specs.List.{list_any, filter_map, cons_option}
use Rattle.std.proofs.lemmas.List.Sums.{sum_by-cons}
use Rattle.api_types.proofs.ListLemmas.{none_some, some_equal}
use Rattle.api_types.specs.Lists.{Each}
use Rattle.plane_laws.proofs.Facts.{AllOf, AtMostOne}

module _ {X : Type 0} where
  pub all-of : (P : X → Type 0) (xs : List X) → Each P xs → AllOf P xs
  all-of P [] h = tt
  all-of P (x ∷ xs) h = (h 0 x refl, all-of P xs (λ k y at. h (suc k) y at))

  -- what weighs nothing together has no element that weighs
  weightless : (w : X → ℕ) (test : X → Bool) → ((x : X) → test x ≡ true → 1 ≤ w x) → (xs : List X) → sum_by w xs ≡ 0 → find test xs ≡ None
  weightless w test heavy [] h = refl
  weightless w test heavy (x ∷ xs) h = go (test x) refl (weightless w test heavy xs)
    where
      go : (b : Bool) → test x ≡ b → (sum_by w xs ≡ 0 → find test xs ≡ None) → cond b (Some x) (find test xs) ≡ None
      go true e rest = absurd (omega (arith, sum_by-cons w x xs, h, heavy x e))
      go false e rest = rest (omega (arith, sum_by-cons w x xs, h))

  -- where those that pass weigh, and all weigh at most one, at most one passes
  pub once-weighed : (w : X → ℕ) (test : X → Bool) → ((x : X) → test x ≡ true → 1 ≤ w x) → (xs : List X) → sum_by w xs ≤ 1 → AtMostOne test xs
  once-weighed w test heavy [] h = tt
  once-weighed w test heavy (x ∷ xs) h =
      (λ e. weightless w test heavy xs (omega (arith, sum_by-cons w x xs, h, heavy x e)), once-weighed w test heavy xs (omega (arith, sum_by-cons w x xs, h)))

  pub once-counted : (test : X → Bool) (xs : List X) → count_by test xs ≤ 1 → AtMostOne test xs
  once-counted test xs h = once-weighed (λ x. cond {A = ℕ} (test x) 1 0) test (λ x e. weighs (test x) e) xs h
    where
      weighs : (b : Bool) → b ≡ true → 1 ≤ cond {A = ℕ} b 1 0
      weighs true e = omega arith
      weighs false e = cc

  pub counted : (test : X → Bool) (xs : List X) → list_any test xs ≡ true → 1 ≤ count_by test xs
  counted test [] h = cc
  counted test (x ∷ xs) h = go (test x) refl h (counted test xs)
    where
      go : (b : Bool) → test x ≡ b → (b || list_any test xs) ≡ true → (list_any test xs ≡ true → 1 ≤ count_by test xs) → 1 ≤ count_by test (x ∷ xs)
      go true e k rest = let one : cond {A = ℕ} (test x) 1 0 ≡ 1 = ap (λ (b : Bool). cond {A = ℕ} b 1 0) e in omega (arith, sum_by-cons (λ y. cond {A = ℕ} (test y) 1 0) x xs, one)
      go false e k rest = let more = rest k in omega (arith, sum_by-cons (λ y. cond {A = ℕ} (test y) 1 0) x xs, more)

  -- a test that fewer elements pass, seen element by element
  pub AtMostOne-less_each : (p q : X → Bool) (xs : List X) → AllOf (λ x. q x ≡ true → p x ≡ true) xs → AtMostOne p xs → AtMostOne q xs
  AtMostOne-less_each p q [] less h = tt
  AtMostOne-less_each p q (x ∷ xs) less h = (λ e. none xs less.1 (h.0 (less.0 e)), AtMostOne-less_each p q xs less.1 h.1)
    where
      none : (ys : List X) → AllOf (λ y. q y ≡ true → p y ≡ true) ys → find p ys ≡ None → find q ys ≡ None
      none [] l k = refl
      none (y ∷ ys) l k = go (p y) (q y) refl refl k (none ys l.1)
        where
          go : (b c : Bool) → p y ≡ b → q y ≡ c → cond b (Some y) (find p ys) ≡ None → (find p ys ≡ None → find q ys ≡ None) → cond c (Some y) (find q ys) ≡ None
          go true c e f k rest = cc
          go false true e f k rest = let t : p y ≡ true = l.0 f in cc
          go false false e f k rest = rest k

  pub AtMostOne-none : (p : X → Bool) (xs : List X) → ((x : X) → p x ≡ true → ⊥) → AtMostOne p xs
  AtMostOne-none p [] h = tt
  AtMostOne-none p (x ∷ xs) h = ((λ e. absurd (h x e)), AtMostOne-none p xs h)

  -- what isn't found at all is found at most once
  pub AtMostOne-unfound : (p : X → Bool) (xs : List X) → find p xs ≡ None → AtMostOne p xs
  AtMostOne-unfound p [] h = tt
  AtMostOne-unfound p (x ∷ xs) h = go (p x) h (AtMostOne-unfound p xs)
    where
      go : (b : Bool) → cond b (Some x) (find p xs) ≡ None → (find p xs ≡ None → AtMostOne p xs) → (p x ≡ true → find p xs ≡ None) × AtMostOne p xs
      go true k rest = cc
      go false k rest = ((λ t. k), rest k)

  pub AllOf-both : (P Q R : X → Type 0) (xs : List X) → ((x : X) → P x → Q x → R x) → AllOf P xs → AllOf Q xs → AllOf R xs
  AllOf-both P Q R [] f p q = tt
  AllOf-both P Q R (x ∷ xs) f p q = (f x p.0 q.0, AllOf-both P Q R xs f p.1 q.1)

-- and a fact on each element is one on each place
pub each-of : {X : Type 0} (P : X → Type 0) (xs : List X) → AllOf P xs → Each P xs
each-of P [] h k y at = none_some y _ at
each-of P (x ∷ xs) h zero y at = subst P (some_equal x y at) h.0
each-of P (x ∷ xs) h (suc k) y at = each-of P xs h.1 k y at

-- what passes in a list that is made from rows comes from a row that passes
pub any-made : {X Y : Type 0} (p : X → Bool) (q : Y → Bool) (f : X → Option Y) (xs : List X) → ((x : X) (y : Y) → f x ≡ Some y → q y ≡ true → p x ≡ true) → list_any q (filter_map f xs) ≡ true → list_any p xs ≡ true
any-made p q f [] from h = h
any-made {X} {Y} p q f (x ∷ xs) from h = go (f x) (p x) refl refl h (any-made p q f xs from)
  where
    go : (o : Option Y) (b : Bool) → f x ≡ o → p x ≡ b → list_any q (cons_option o (filter_map f xs)) ≡ true → (list_any q (filter_map f xs) ≡ true → list_any p xs ≡ true) → (b || list_any p xs) ≡ true
    go o true e t h rest = refl
    go None false e t h rest = rest h
    go (Some y) false e t h rest = by (q y) refl h
      where
        by : (c : Bool) → q y ≡ c → (c || list_any q (filter_map f xs)) ≡ true → list_any p xs ≡ true
        by true u k = let bad : p x ≡ true = from x y e u in cc
        by false u k = rest k
