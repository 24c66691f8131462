-- Rows that are found by what is told of them, in two states: where two lists tell the same, and the caller's own rows look the same,
-- the same is told of the row that is found, and it looks the same where it is the caller's own.
use Rattle.std.proofs.Common.{◌≡◌, List, [], ◌∷◌, Bool, true, false, cond, Option, Some, None, refl, ap, sym, map}
use Rattle.std.specs.Prelude.{◌&&◌, ◌||◌, filter, find, option_map, if◌then◌else◌}
use Rattle.std.specs.List.{list_any}
use Rattle.api_types.proofs.ListLemmas.{false_true}

cons_head : {X : Type 0} (a b : X) (xs ys : List X) → a ∷ xs ≡ b ∷ ys → a ≡ b
cons_head a b xs ys h = cc

cons_tail : {X : Type 0} (a b : X) (xs ys : List X) → a ∷ xs ≡ b ∷ ys → xs ≡ ys
cons_tail a b xs ys h = cc

nil_cons : {X : Type 0} (P : Type 0) (a : X) (xs : List X) → [] ≡ a ∷ xs → P
nil_cons P a xs h = cc

-- what passes both tests is found by the second among what passes the first
pub find-then : {R : Type 0} (p q : R → Bool) (xs : List R) → find (λ x. p x && q x) xs ≡ find q (filter p xs)
find-then p q [] = refl
find-then p q (x ∷ xs) = by (p x) (find-then p q xs)
  where
    by : (b : Bool) → find (λ y. p y && q y) xs ≡ find q (filter p xs)
        → cond (b && q x) (Some x) (find (λ y. p y && q y) xs) ≡ find q (cond b (x ∷ filter p xs) (filter p xs))
    by true h = ap (cond (q x) (Some x)) h
    by false h = h

-- a row with an id is found where one stands
pub found_there : {R : Type 0} (test : R → Bool) (xs : List R) → list_any test xs ≡ true → (x : R) × (find test xs ≡ Some x)
found_there test [] h = false_true _ h
found_there {R} test (x ∷ xs) h = by (test x) h (λ g. found_there test xs g)
  where
    by : (b : Bool) → b || list_any test xs ≡ true → (list_any test xs ≡ true → (y : R) × (find test xs ≡ Some y)) → (y : R) × (cond b (Some x) (find test xs) ≡ Some y)
    by true e rest = (x, refl)
    by false e rest = rest e

-- what is told of a row, and how it looks where it is the caller's own
abbrev pub told_of : {R V L : Type 0} → (R → L) → (V → Bool) → (R → V) → R → V × Option L
told_of look own view r = (view r, if own (view r) then Some (look r) else None)

module _ {R V L : Type 0} (look : R → L) (f g : R → V) (own : V → Bool) (test : V → Bool) where
  abbrev own_by : (R → V) → List R → List R
  own_by view xs = filter (λ r. own (view r)) xs

  heads : (x y : R) (xs ys : List R) (o p : Bool) → o ≡ p
      → map look (cond o (x ∷ own_by f xs) (own_by f xs)) ≡ map look (cond p (y ∷ own_by g ys) (own_by g ys))
      → (map look (own_by f xs) ≡ map look (own_by g ys)) × ((if o then Some (look x) else None) ≡ (if p then Some (look y) else None))
  heads x y xs ys true true e h = (cons_tail (look x) (look y) (map look (own_by f xs)) (map look (own_by g ys)) h, ap Some (cons_head (look x) (look y) (map look (own_by f xs)) (map look (own_by g ys)) h))
  heads x y xs ys false false e h = (h, refl)
  heads x y xs ys true false e h = false_true _ (sym e)
  heads x y xs ys false true e h = false_true _ e

  pub found_told : (xs ys : List R) → map f xs ≡ map g ys → map look (own_by f xs) ≡ map look (own_by g ys)
      → option_map (told_of look own f) (find (λ r. test (f r)) xs) ≡ option_map (told_of look own g) (find (λ r. test (g r)) ys)
  found_told [] [] m h = refl
  found_told [] (y ∷ ys) m h = nil_cons _ (g y) (map g ys) m
  found_told (x ∷ xs) [] m h = nil_cons _ (f x) (map f xs) (sym m)
  found_told (x ∷ xs) (y ∷ ys) m h = by (test (f x)) (test (g y)) (ap test same) (found_told xs ys (cons_tail (f x) (g y) (map f xs) (map g ys) m) both.0)
    where
      same : f x ≡ g y
      same = cons_head (f x) (g y) (map f xs) (map g ys) m

      both : (map look (own_by f xs) ≡ map look (own_by g ys)) × ((if own (f x) then Some (look x) else None) ≡ (if own (g y) then Some (look y) else None))
      both = heads x y xs ys (own (f x)) (own (g y)) (ap own same) h

      by : (t u : Bool) → t ≡ u → option_map (told_of look own f) (find (λ r. test (f r)) xs) ≡ option_map (told_of look own g) (find (λ r. test (g r)) ys)
          → option_map (told_of look own f) (cond t (Some x) (find (λ r. test (f r)) xs)) ≡ option_map (told_of look own g) (cond u (Some y) (find (λ r. test (g r)) ys))
      by true true e rest = λ j. Some (same j, both.1 j)
      by false false e rest = rest
      by true false e rest = false_true _ (sym e)
      by false true e rest = false_true _ e
